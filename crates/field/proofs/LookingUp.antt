-- A walk up a neighbour column that looks at its spans, and may stop early.
use mathlib.Core.Path.{◌≡◌, refl, sym, ap, ◌∙◌}
use mathlib.Core.Logic.{◌≢◌}
use mathlib.Core.Bool.{true}
use mathlib.Core.List.{List, [], ◌∷◌, map}
use Prim.Native.Nat.{ℕ, suc, ◌+◌, ◌<◌, ◌≤◌}
use native.Mathlib.Omega.{arith}
use borrow.Author.Tests.{ne_eqb}
use lib.ListN.{length, get_or}
use Rattle.field.specs.Slots.{none, contents, span_at, range_at}
use Rattle.field.specs.Inner.{Chain, slots_from}
use Rattle.field.specs.Marks.{Climbs}
use Rattle.field.specs.Walkable.{open_top, roof}
use Rattle.field.specs.Ledges.{Stand}
use Rattle.field.specs.LedgeTest.{View, seen, looked}
use Rattle.field.specs.FilterCode.{roof_at}
use Rattle.field.proofs.Walking.{asc-lower}
use Rattle.field.proofs.Chains.{chain-cons, chain-nil, chain-unique, chain-slot, chain-less}
use Rattle.field.proofs.Upward.{roof-of}
use Rattle.field.proofs.Looking.{looked-drop, looked-stop}

-- The column `ss` starts at `head`, and the walk has come to slot `at`, with `left` still to see: looking at what is left ends as looking at the whole,
-- and the floor above that slot is high enough for the agent.
pub record LookingUp (fl ce nx : List ℕ) (head : ℕ) (st : Stand) (v₀ v : View) (at : ℕ) : Type 0 where
  pub ss : List ℕ
  pub left : List ℕ
  pub whole : Chain nx head ss
  pub here : Chain nx at left
  pub climbs : Climbs fl ce 0 left
  pub under : at ≢ none → st.top + st.height ≤ roof_at fl (get_or nx at 0)
  pub onward : (ar : List ℕ) → looked st v (map (span_at (contents fl ce ar)) left) ≡ looked st v₀ (map (span_at (contents fl ce ar)) ss)

pub looking-start : {fl ce nx : List ℕ} {head : ℕ} (st : Stand) (v : View) (ss : List ℕ) → Chain nx head ss → Climbs fl ce 0 ss → (head ≢ none → st.top + st.height ≤ roof_at fl (get_or nx head 0)) → LookingUp fl ce nx head st v v head
looking-start st v ss c r u =
    record { ss = ss; left = ss; whole = c; here = c; climbs = r; under = u; onward = λ ar. refl }

-- the lowest floor of what lies from `b` up, or the open top, is as high
rises : {need : ℕ} (fl ce : List ℕ) (b : ℕ) (ss : List ℕ) → need ≤ open_top → need ≤ b → Climbs fl ce b ss → need ≤ roof (map (span_at (contents fl ce [])) ss)
rises fl ce b [] fits l r = fits
rises fl ce b (s ∷ ss) fits l r = omega (arith, r.0)

module _ {fl ce nx : List ℕ} {head : ℕ} {st : Stand} {v₀ v : View} {at : ℕ} (p : LookingUp fl ce nx head st v₀ v at) where
  -- where the walk has not ended there is a slot
  pub looking-slot : at ≢ none → (at < length nx) × (length nx ≤ none)
  looking-slot n = (chain-slot p.left p.here n, p.here.few)

  pub looking-next : at ≢ none → get_or nx at 0 ≢ none → get_or nx at 0 < length nx
  looking-next n m = let k = chain-cons p.left p.here n in chain-slot k.0 k.2 m

  pub looking-less : at ≢ none → length (slots_from nx (get_or nx at 0)) < length (slots_from nx at)
  looking-less n = let k = chain-cons p.left p.here n in chain-less p.left k.0 p.here k.1 k.2

  -- the floor above the next slot is higher still, or the open top
  under_next : at ≢ none → st.top + st.height ≤ open_top → get_or nx at 0 ≢ none → st.top + st.height ≤ roof_at fl (get_or nx (get_or nx at 0) 0)
  under_next n fits m =
      let k = chain-cons p.left p.here n in
      let climbs : Climbs fl ce 0 (at ∷ k.0) = rw k.1 at p.climbs in
      let j = chain-cons k.0 k.2 m in
      let above : Climbs fl ce (suc (get_or ce at 0)) (get_or nx at 0 ∷ j.0) = rw j.1 at climbs.2 in
      let floor : st.top + st.height ≤ get_or fl (get_or nx at 0) 0 = rw (ne_eqb (get_or nx at 0) none m) at (p.under n) in
      rw (roof-of (contents fl ce []) j.0 j.2) at (rises fl ce (suc (get_or ce (get_or nx at 0) 0)) j.0 fits (omega (arith, above.1)) above.2)

  -- the span there was seen, and the floors rise
  pub looking-step : at ≢ none → st.top + st.height ≤ open_top → {w : View} → w ≡ seen st (get_or ce at 0) (roof_at fl (get_or nx at 0)) v → LookingUp fl ce nx head st v₀ w (get_or nx at 0)
  looking-step n fits {w} e =
      let k = chain-cons p.left p.here n in
      let climbs : Climbs fl ce 0 (at ∷ k.0) = rw k.1 at p.climbs in
      record {
        ss = p.ss;
        left = k.0;
        whole = p.whole;
        here = k.2;
        climbs = asc-lower 0 (suc (get_or ce at 0)) (map (range_at (contents fl ce [])) k.0) (omega arith) climbs.2;
        under = λ m. under_next n fits m;
        onward = λ ar.
            let o : looked st v (map (span_at (contents fl ce ar)) (at ∷ k.0)) ≡ looked st v₀ (map (span_at (contents fl ce ar)) p.ss) =
            rw k.1 at (p.onward ar)
            in
            ap (λ (u : View). looked st u (map (span_at (contents fl ce ar)) k.0)) (e ∙ ap (λ (c : ℕ). seen st (get_or ce at 0) c v) (sym (roof-of (contents fl ce ar) k.0 k.2)))
            ∙ o;
      }

  -- there was a drop
  pub looking-drop : v.drop ≡ true → (ar ss : List ℕ) → Chain nx head ss → v ≡ looked st v₀ (map (span_at (contents fl ce ar)) ss)
  looking-drop d ar ss c =
      rw (chain-unique c p.whole) (sym (looked-drop st v (map (span_at (contents fl ce ar)) p.left) d) ∙ p.onward ar)

  -- the span there is too high
  pub looking-stop : at ≢ none → st.roof < get_or ce at 0 + st.height → (ar ss : List ℕ) → Chain nx head ss → v ≡ looked st v₀ (map (span_at (contents fl ce ar)) ss)
  looking-stop n l ar ss c =
      let k = chain-cons p.left p.here n in
      let climbs : Climbs fl ce 0 (at ∷ k.0) = rw k.1 at p.climbs in
      let o : looked st v (map (span_at (contents fl ce ar)) (at ∷ k.0)) ≡ looked st v₀ (map (span_at (contents fl ce ar)) p.ss) =
      rw k.1 at (p.onward ar)
      in
      rw (chain-unique c p.whole) (sym (looked-stop st v (contents fl ce ar) at k.0 climbs l) ∙ o)

  pub looking-end : at ≡ none → (ar ss : List ℕ) → Chain nx head ss → v ≡ looked st v₀ (map (span_at (contents fl ce ar)) ss)
  looking-end n ar ss c = rw (chain-unique c p.whole) (rw (chain-nil p.left p.here n) at (p.onward ar))
