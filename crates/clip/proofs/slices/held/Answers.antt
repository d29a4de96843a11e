-- `clip::slices::held` meets its contract.
use mathlib.Core.Path.{ap, ◌∙◌}
use Prim.Native.Nat.{ℕ, min, max}
use lib.IntN.{ℤ}
use mir.Syntax.{w32}
use mir.ValLaws.{to_z-of_z}
use Rattle.clip.specs.Slices.{held_to}
use Rattle.clip.proofs.Holds.{held_fit, held-unfit}
use Rattle.clip.proofs.slices.held.Goals as goal

pub returns-in-Ok : goal.returns-in-Ok
returns-in-Ok c =
    let a = c.args in
    c.clamp.ensures ∙ ap (λ (n : ℕ). max a.low (min n a.high)) c.in-Ok.ensures.1 ∙ held_fit _ _ _ c.in-Ok.ensures.0 ∙ ap (λ (z : ℤ). held_to a.low a.high z) (to_z-of_z w32 a.v c.ranges.v)

pub returns-in-Err : goal.returns-in-Err
returns-in-Err c =
    let a = c.args in
    held-unfit _ _ a.v c.ranges.v.sfits (rw (to_z-of_z w32 a.v c.ranges.v) at c.in-Err.ensures)
