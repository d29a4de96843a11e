-- `rasterize::first_of` meets its contract.
use mathlib.Core.Path.{◌≡◌, sym, ap, ◌∙◌}
use mathlib.Core.Bool.{Bool, true, false}
use Prim.Native.Nat.{ℕ}
use native.Mathlib.Numerals.{add-one}
use native.Mathlib.Omega.{arith}
use lib.IntN.{ℤ, pos, pred_ℤ}
use lib.Signed.{lt_z}
use mir.Syntax.{w32}
use mir.Val.{to_z, of_z}
use mir.ValLaws.{to_z-of_z}
use Rattle.clip.specs.Slices.{held_to}
use Rattle.clip.proofs.Holds.{first_below, first-inside, held-le}
use Rattle.rerecast.proofs.turns.first_of.Goals as goal
use Rattle.rerecast.proofs.turns.first_of.Goals.{After-held_last, Start}

-- the integer that is tested and passed on is v
read : (c : Start) → to_z w32 (of_z w32 c.args.v) ≡ c.args.v
read c = to_z-of_z w32 c.args.v c.ranges.v

sign : (c : Start) (b : Bool) → lt_z (to_z w32 (of_z w32 c.args.v)) (pos 0) ≡ b → lt_z c.args.v (pos 0) ≡ b
sign c b h = ap (λ (z : ℤ). lt_z z (pos 0)) (sym (read c)) ∙ h

held : (c : After-held_last) → c.held_last.result ≡ held_to 0 c.args.last c.args.v
held c = c.held_last.ensures ∙ ap (λ (z : ℤ). held_to 0 c.args.last z) (read c.before.before)

pub returns-then-v-lt0 : goal.returns-then-v-lt0
returns-then-v-lt0 c = first_below _ _ (sign c.before true c.if-v-lt0.true)

pub overflow_add-result : goal.overflow_add-result
overflow_add-result c = record { fits = omega (arith, held c, held-le 0 c.args.last c.args.v (omega arith), c.requires) }

pub returns : goal.returns
returns c = ap (λ (n : ℕ). pred_ℤ (pos n)) (add-one c.held_last.result) ∙ ap pos (held c) ∙ first-inside c.args.last c.args.v (sign c.before.before false c.if-v-lt0.false)
