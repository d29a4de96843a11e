-- Following a link: of a complete result, `con_indices` answers the place that a link leads to and the number of its entry, and that entry is of a floor to which
-- an agent can step. So what is read of a link is never false either.
use mathlib.Core.Path.{◌≡◌, ap}
use mathlib.Core.Logic.{◌≢◌, inl, inr}
use mathlib.Core.Bool.{true}
use Prim.Native.Nat.{ℕ, zero, suc, ◌+◌, ◌*◌, ◌<◌, ◌≤◌}
use native.Mathlib.Omega.{arith}
use borrow.Author.Tests.{lt-ltb}
use lib.ListN.{length}
use lib.Seq.{length-sets}
use Rattle.replies.specs.Said.{Said}
use Rattle.compact_span.specs.Word.{empty_mark}
use Rattle.grid.specs.declared.Grid.{Grid}
use Rattle.grid.specs.Grid.{width, height, columns}
use Rattle.grid.specs.Directions.{step_x, step_z, stays}
use Rattle.field.specs.Field.{Field, spans}
use Rattle.field.specs.Store.{Store}
use Rattle.field.specs.Open.{columns_of, indices}
use Rattle.field.specs.Compact.{Result, Outcome}
use Rattle.field.specs.Linked.{Floor, Step, Completed, row_of, link_from, Stored, Leads}
use Rattle.field.proofs.LinkSays.{made, each-floor-is-stored, no-false-link}
use Rattle.compact_reader.specs.Answer.{neighbour_said}
use Rattle.compact_reader.specs.Reading.{ConIndicesSays}

-- ---- a step, as the rule has it and as the definitions count it

step-x : (d x z x' z' : ℕ) → Step d x z x' z' → x' ≡ step_x d x
step-x zero x z x' z' s = omega (arith, s.0)
step-x (suc zero) x z x' z' s = s.0
step-x (suc (suc zero)) x z x' z' s = s.0
step-x (suc (suc (suc zero))) x z x' z' s = s.0
step-x (suc (suc (suc (suc d)))) x z x' z' s = absurd s

step-z : (d x z x' z' : ℕ) → Step d x z x' z' → z' ≡ step_z d z
step-z zero x z x' z' s = s.1
step-z (suc zero) x z x' z' s = s.1
step-z (suc (suc zero)) x z x' z' s = s.1
step-z (suc (suc (suc zero))) x z x' z' s = omega (arith, s.1)
step-z (suc (suc (suc (suc d)))) x z x' z' s = absurd s

step_stays : (w h d x z x' z' : ℕ) → Step d x z x' z' → x' < w → z' < h → stays w h d x z ≡ true
step_stays w h zero x z x' z' s p q = lt-ltb 0 x (omega (arith, s.0))
step_stays w h (suc zero) x z x' z' s p q = lt-ltb (z + 1) h (omega (arith, s.1))
step_stays w h (suc (suc zero)) x z x' z' s p q = lt-ltb (x + 1) w (omega (arith, s.0))
step_stays w h (suc (suc (suc zero))) x z x' z' s p q = lt-ltb 0 z (omega (arith, s.1))
step_stays w h (suc (suc (suc (suc d)))) x z x' z' s p q = absurd s

-- ---- the promise

module _ {g : Grid} {tall climb : ℕ} {s : Store} {t : Result} {o : Outcome} {f : Field} (call : Completed g tall climb s t o f) (x z : ℕ) (p : x < width g) (q : z < height g) {layer : ℕ} (a : Floor (spans f (x + z * width g)) layer) (d : ℕ) where
  abbrev con : ℕ
  con = link_from o.result (x + z * width g) layer d

  -- what is read where a link leads: the place beside and the number of an entry, which is a floor's, and an agent can step there
  pub record Followed (said : Said) : Type 0 where
    pub leads : Leads (width g) (height g) (spans f) o.result.counts tall climb x z d a con
    pub answer : said ≡ neighbour_said leads.x' leads.z' (row_of o.result (leads.x' + leads.z' * width g) con)
    pub entry : Stored o.result (leads.x' + leads.z' * width g) leads.floor

  long : columns g ≤ length o.result.indices
  long = omega (arith, ap (λ (r : Result). length r.indices) (made call).made, length-sets t.indices 0 (indices 0 (columns_of f)), (made call).indices)

  pub link-followed : d < 4 → con ≢ empty_mark → (said : Said) → ConIndicesSays g o.result.indices x z d con said → Followed said
  link-followed l n said (inl e) = absurd (e.0 (made call).taken)
  link-followed l n said (inr (ok, inl e)) = absurd (e.0 long)
  link-followed l n said (inr (ok, inr (fit, inl e))) = absurd (e.0 (p, q))
  link-followed l n said (inr (ok, inr (fit, inr (at, inl e)))) = absurd (e.0 (omega arith, omega (arith, (no-false-link call x z p q a d l n).low)))
  link-followed l n said (inr (ok, inr (fit, inr (at, inr (few, inl e))))) =
      let L = no-false-link call x z p q a d l n in
      absurd (e.0 (step_stays (width g) (height g) d x z L.x' L.z' L.step L.on-grid.0 L.on-grid.1))
  link-followed l n said (inr (ok, inr (fit, inr (at, inr (few, inr (stay, e)))))) =
      let L = no-false-link call x z p q a d l n in
      record {
        leads = L;
        answer = rw (step-x d x z L.x' L.z' L.step, step-z d x z L.x' L.z' L.step) e;
        entry = each-floor-is-stored call L.x' L.z' L.on-grid.0 L.on-grid.1 L.floor;
      }
