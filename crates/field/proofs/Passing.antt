-- The loop that passes the spans below a floor: what is left of the column ends as the whole would.
use mathlib.Core.Path.{◌≡◌, refl, ap, ◌∙◌}
use mathlib.Core.Logic.{◌≢◌}
use mathlib.Core.List.{List}
use Prim.Native.Nat.{ℕ, ◌<◌, ◌≤◌}
use borrow.Author.Tests.{le-ltb, lt-ltb}
use lib.ListN.{get_or}
use Rattle.field.specs.Slots.{none}
use Rattle.field.specs.Inner.{Chain, first_or, last_or, below, from}
use Rattle.field.proofs.Chains.{chain-unique, chain-cons, chain-nil}

pub record Passing (ce nx : List ℕ) (head floor before at : ℕ) : Type 0 where
  pub ss : List ℕ
  pub left : List ℕ
  pub whole : Chain nx head ss
  pub here : Chain nx at left
  pub last : last_or before (below ce floor left) ≡ last_or none (below ce floor ss)
  pub onward : from ce floor left ≡ from ce floor ss

-- where a pass stops: the slot before, and the slot there
abbrev pub Stops : List ℕ → List ℕ → ℕ → ℕ → ℕ → ℕ → Type 0
Stops ce nx head floor before at =
    (ss : List ℕ) → Chain nx head ss → (before ≡ last_or none (below ce floor ss)) × (at ≡ first_or none (from ce floor ss))

pub passing-start : (ce nx : List ℕ) (head floor : ℕ) (ss : List ℕ) → Chain nx head ss → Passing ce nx head floor none head
passing-start ce nx head floor ss c = record { ss = ss; left = ss; whole = c; here = c; last = refl; onward = refl }

module _ {ce nx : List ℕ} {head floor before at : ℕ} (p : Passing ce nx head floor before at) where
  pub passing_step : at ≢ none → get_or ce at 0 < floor → Passing ce nx head floor at (get_or nx at 0)
  passing_step n h =
      let k = chain-cons p.left p.here n in
      let t = lt-ltb (get_or ce at 0) floor h in
      record {
        ss = p.ss;
        left = k.0;
        whole = p.whole;
        here = k.2;
        last = (rw (k.1, t) at p.last);
        onward = (rw (k.1, t) at p.onward);
      }

  -- a span that is not below the floor
  pub passing-stop : at ≢ none → floor ≤ get_or ce at 0 → Stops ce nx head floor before at
  passing-stop n h ss c =
      let k = chain-cons p.left p.here n in
      let t = le-ltb (get_or ce at 0) floor h in
      let e = chain-unique c p.whole in
      (rw e (rw (k.1, t) at p.last), rw e (ap (λ (l : List ℕ). first_or none l) (rw (k.1, t) at p.onward)))

  pub passing-end : at ≡ none → Stops ce nx head floor before at
  passing-end n ss c =
      let k = chain-nil p.left p.here n in
      let e = chain-unique c p.whole in
      (rw e (rw k at p.last), n ∙ rw e (ap (λ (l : List ℕ). first_or none l) (rw k at p.onward)))
