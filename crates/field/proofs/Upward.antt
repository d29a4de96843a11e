-- A walk up a column that gives each span an area by a rule.
use mathlib.Core.Path.{◌≡◌, refl, ◌∙◌}
use mathlib.Core.Logic.{◌≢◌}
use mathlib.Core.List.{List, [], ◌∷◌, map}
use Prim.Native.Nat.{ℕ, ◌<◌, ◌≤◌}
use native.Mathlib.Omega.{arith}
use borrow.Author.Tests.{eq-eqb, ne_eqb}
use lib.ListN.{length, get_or, set, length-set}
use Rattle.field.specs.declared.Span.{Span}
use Rattle.field.specs.Slots.{none, Contents, contents, span_at}
use Rattle.field.specs.Inner.{Chain, Distinct, slots_from}
use Rattle.field.specs.Walkable.{roof}
use Rattle.field.specs.FilterCode.{roof_at}
use Rattle.field.specs.Filters.{ruled, assign}
use Rattle.field.proofs.Counting.{distinct_head, distinct_tail}
use Rattle.field.proofs.Chains.{chain-cons, chain-nil, chain-unique, chain-slot, chain-less}
use Rattle.field.proofs.Assigning.{spans-set}

-- the floor of the slot that a chain starts with, or the open top
pub roof-of : (k : Contents) {nx : List ℕ} {h : ℕ} (ss : List ℕ) → Chain nx h ss → roof (map (span_at k) ss) ≡ roof_at k.floors h
roof-of k {nx} {h} [] c = rw (eq-eqb h none c.run)
roof-of k {nx} {h} (s ∷ ss) c = rw (c.run.0, ne_eqb s none (λ e. omega (arith, c.run.1, c.few)))

-- The column `ss` starts at `head`, and the walk has come to slot `at`, with `left` still to do: what is left ends as the whole would.
pub record Upward (rule : List Span → Span → List Span → ℕ) (fl ce nx : List ℕ) (head : ℕ) (ar₀ ar : List ℕ) (at : ℕ) : Type 0 where
  pub ss : List ℕ
  pub left : List ℕ
  pub below : List Span
  pub whole : Chain nx head ss
  pub here : Chain nx at left
  pub distinct : Distinct left
  pub size : length ar ≡ length ar₀
  pub onward : assign ar left (ruled rule below (map (span_at (contents fl ce ar)) left)) ≡ assign ar₀ ss (ruled rule [] (map (span_at (contents fl ce ar₀)) ss))

unfoldable pub upward-start : (rule : List Span → Span → List Span → ℕ) (fl ce nx : List ℕ) (head : ℕ) (ar ss : List ℕ) → Chain nx head ss → Distinct ss → Upward rule fl ce nx head ar ar head
upward-start rule fl ce nx head ar ss c d =
    record { ss = ss; left = ss; below = []; whole = c; here = c; distinct = d; size = refl; onward = refl }

module _ {rule : List Span → Span → List Span → ℕ} {fl ce nx : List ℕ} {head : ℕ} {ar₀ ar : List ℕ} {at : ℕ} (p : Upward rule fl ce nx head ar₀ ar at) where
  -- where the walk has not ended there is a slot
  pub upward-slot : at ≢ none → (at < length nx) × (length nx ≤ none)
  upward-slot n = (chain-slot p.left p.here n, p.here.few)

  -- and what follows it, if anything does, is a slot too
  pub upward-next : at ≢ none → get_or nx at 0 ≢ none → get_or nx at 0 < length nx
  upward-next n m = let k = chain-cons p.left p.here n in chain-slot k.0 k.2 m

  pub upward-less : at ≢ none → length (slots_from nx (get_or nx at 0)) < length (slots_from nx at)
  upward-less n = let k = chain-cons p.left p.here n in chain-less p.left k.0 p.here k.1 k.2

  -- the span there is given its area
  unfoldable pub upward-step : at ≢ none → {v : ℕ} → ((tl : List ℕ) → Chain nx (get_or nx at 0) tl → v ≡ rule p.below (span_at (contents fl ce ar) at) (map (span_at (contents fl ce ar)) tl)) → Upward rule fl ce nx head ar₀ (set ar at v) (get_or nx at 0)
  upward-step n {v} e =
      let k = chain-cons p.left p.here n in
      let d : Distinct (at ∷ k.0) = rw k.1 at p.distinct in
      record {
        ss = p.ss;
        left = k.0;
        below = span_at (contents fl ce ar) at ∷ p.below;
        whole = p.whole;
        here = k.2;
        distinct = distinct_tail at k.0 d;
        size = length-set ar at v ∙ p.size;
        onward = rw (spans-set fl ce ar at v k.0 (distinct_head at k.0 d), e k.0 k.2) (rw k.1 at p.onward);
      }

  pub upward-end : at ≡ none → (ss : List ℕ) → Chain nx head ss → ar ≡ assign ar₀ ss (ruled rule [] (map (span_at (contents fl ce ar₀)) ss))
  upward-end n ss c = rw (chain-unique c p.whole) (rw (chain-nil p.left p.here n) at p.onward)
