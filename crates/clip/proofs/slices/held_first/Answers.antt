-- `clip::slices::held_first` meets its contract.
use mathlib.Core.Path.{◌≡◌, ap, ◌∙◌}
use Prim.Native.Nat.{ℕ, min}
use native.Mathlib.Omega.{arith}
use lib.IntN.{pos, nat_abs}
use mir.Syntax.{w32}
use mir.Facts.{to_z_pos}
use mir.ValLaws.{to_z-of_z}
use Rattle.std.specs.Int.{FitsUnsignedBits}
use Rattle.clip.proofs.Holds.{first-fit, first-unfit, nat_abs_le}
use Rattle.clip.proofs.slices.held_first.Goals as goal

pub returns-in-Ok : goal.returns-in-Ok
returns-in-Ok c =
    let a = c.args in
    let fits : FitsUnsignedBits 32 a.v = rw (to_z-of_z w32 a.v c.ranges.v) at c.in-Ok.ensures.0 in
    let n : c.in-Ok.n ≡ nat_abs a.v = rw (to_z-of_z w32 a.v c.ranges.v) at c.in-Ok.ensures.1 in
    to_z_pos w32 (omega (arith, c.min.ensures, n, nat_abs_le a.v c.ranges.v.sfits fits)) ∙ ap pos (c.min.ensures ∙ ap (λ (k : ℕ). min k a.last) n) ∙ first-fit a.last a.v fits

pub returns-in-Err : goal.returns-in-Err
returns-in-Err c =
    let a = c.args in
    first-unfit a.last a.v c.ranges.v.sfits (rw (to_z-of_z w32 a.v c.ranges.v) at c.in-Err.ensures)
