-- What `scaled` gives, over 2 ^ 23, is x's fraction, and so is the whole number at or above both, and the one at or below.
use Rattle.std.proofs.Common.{◌≡◌, ℕ, ◌*◌, ◌/◌, ◌^◌, ◌<◌, Bool, true, false, not, eqb, pos, sym, refl, ap, ◌∙◌, pow_pos, w32, rules}
use lib.Ieee.Nearest.{div_same}
use lib.Ieee.Positive.{num, den, den_pos}
use mir.ValLaws.{to_z_pos}
use Rattle.ops.specs.Round.{fraction}
use Rattle.ops.proofs.Tests.{set, unset}
use Rattle.ops.proofs.Fractions.{away-same}
use Rattle.ops.proofs.whole.Goals as goal
use Rattle.ops.proofs.whole.Goals.{then-this-ne0, else-this-ne0}

pub overflow_cast-result : goal.overflow_cast-result
overflow_cast-result g c = search rules

same_fraction : (f : Bool) (a b c d : ℕ) → 0 < b → 0 < d → a * d ≡ c * b → fraction f a b ≡ fraction f c d
same_fraction true a b c d B D e = away-same a b c d B D e
same_fraction false a b c d B D e = div_same a b c d B D e

pub returns : goal.returns
returns g c =
    let x = c.args.x in
    let parts = c.scaled-parts in
    let rounded : c.if-this-ne0.raised / 2 ^ 23 ≡ fraction (not (eqb g.row.AWAY 0)) parts.result (2 ^ 23) =
    elim c.if-this-ne0.branch [
      | then-this-ne0 w ↦ rw (set g.row.AWAY w.if-this-ne0.true, w.raised-is) refl
      | else-this-ne0 w ↦ rw (unset g.row.AWAY w.if-this-ne0.false, w.raised-is) refl
    ] in
    to_z_pos w32 _ (overflow_cast-result g c).sfits
    ∙ ap pos (rounded ∙ same_fraction _ parts.result (2 ^ 23) (num x) (den x) (pow_pos 23) (den_pos x) (sym parts.ensures.same_value))
