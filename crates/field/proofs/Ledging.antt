-- A walk up a column that clears the spans at a ledge, with a cursor in each of the four columns beside.
use mathlib.Core.Path.{◌≡◌}
use mathlib.Core.Logic.{◌≢◌}
use mathlib.Core.Bool.{cond}
use mathlib.Core.List.{List, ◌∷◌, map}
use Prim.Native.Nat.{ℕ, suc, ◌+◌, ◌-◌, ◌<◌}
use native.Mathlib.Omega.{arith}
use lib.ListN.{length, get_or, set}
use Rattle.field.specs.Slots.{none, contents, slots}
use Rattle.field.specs.Field.{Field, column_at, spans, Holds}
use Rattle.field.specs.Inner.{Chain}
use Rattle.field.specs.Marks.{Climbs}
use Rattle.field.specs.Ledges.{Stand}
use Rattle.field.specs.LedgeTest.{ledge}
use Rattle.field.specs.FilterCode.{roof_at, around, Cursors}
use Rattle.field.specs.Filters.{firm}
use Rattle.field.proofs.Chains.{chain-cons}
use Rattle.field.proofs.Holding.{column-chain, column-distinct}
use Rattle.field.proofs.Upward.{roof-of, Upward, upward-start, upward-step}
use Rattle.field.proofs.Cursors.{cursors-more, cursors-first}

-- where the agent stands whose span is at slot `at`
abbrev pub stand_at : List ℕ → List ℕ → List ℕ → ℕ → ℕ → ℕ → Stand
stand_at fl ce nx height climb at = record { top = get_or ce at 0; roof = roof_at fl (get_or nx at 0); height = height; climb = climb }

-- what is left of the column lies from `low` up, and the cursors serve an agent that stands there
pub record Ledging (fl ce nx : List ℕ) (w i height climb : ℕ) (f : Field) (arf : List ℕ) (head : ℕ) (ar₀ ar : List ℕ) (at : ℕ) (sides : List ℕ) : Type 0 where
  pub up : Upward (λ below s above. firm height climb (spans f) (around w i) s above) fl ce nx head ar₀ ar at
  pub low : ℕ
  pub climbs : Climbs fl ce low up.left
  pub cursors : Cursors (contents fl ce arf) nx (low + height) (spans f) (around w i) sides

pub ledging-start : {heads : List ℕ} {free : ℕ} {fl ce arf nx : List ℕ} {f : Field} → Holds heads (slots free fl ce arf nx) f → (w i height climb : ℕ) → i - 1 < length heads → i + w < length heads → i + 1 < length heads → i - w < length heads → (ar : List ℕ) → Ledging fl ce nx w i height climb f arf (get_or heads i 0) ar ar (get_or heads i 0) (map (λ k. get_or heads k 0) (around w i))
unfolding upward-start
ledging-start {heads} {free} {fl} {ce} {arf} {nx} {f} H w i height climb a b c d ar =
    record {
      up = upward-start _ fl ce nx (get_or heads i 0) ar (column_at f i) (column-chain H i (omega arith)) (column-distinct H i);
      low = 0;
      climbs = rw H.contents at (H.ascends i (omega arith));
      cursors = cursors-more (contents fl ce arf) nx 0 (0 + height) (spans f) (around w i) (map (λ k. get_or heads k 0) (around w i)) (omega arith) (cursors-first H w i a b c d);
    }

module _ {fl ce nx : List ℕ} {w i height climb : ℕ} {f : Field} {arf : List ℕ} {head : ℕ} {ar₀ ar : List ℕ} {at : ℕ} {sides : List ℕ} (p : Ledging fl ce nx w i height climb f arf head ar₀ ar at sides) (n : at ≢ none) where
  climbs-here : (tl : List ℕ) × Chain nx (get_or nx at 0) tl × Climbs fl ce p.low (at ∷ tl)
  climbs-here = let k = chain-cons p.up.left p.up.here n in (k.0, k.2, rw k.1 at p.climbs)

  -- the cursors serve the agent on the span there
  pub ledging-serves : Cursors (contents fl ce arf) nx (get_or ce at 0 + height) (spans f) (around w i) sides
  unfolding climbs-here
  ledging-serves =
      let k = climbs-here in
      cursors-more (contents fl ce arf) nx (p.low + height) (get_or ce at 0 + height) (spans f) (around w i) sides (omega (arith, k.2.0, k.2.1)) p.cursors

  -- which is given its area, with the cursors moved up for it
  pub ledging-step : {v : ℕ} {sides' : List ℕ} → v ≡ cond (ledge (stand_at fl ce nx height climb at) (spans f) (around w i)) 0 (get_or ar at 0) → Cursors (contents fl ce arf) nx (get_or ce at 0 + height) (spans f) (around w i) sides' → Ledging fl ce nx w i height climb f arf head ar₀ (set ar at v) (get_or nx at 0) sides'
  unfolding climbs-here upward-step
  ledging-step {v} {sides'} e c =
      record {
        up = upward-step p.up n (λ tl k. rw (roof-of (contents fl ce ar) tl k) e);
        low = suc (get_or ce at 0);
        climbs = climbs-here.2.2;
        cursors = cursors-more (contents fl ce arf) nx (get_or ce at 0 + height) (suc (get_or ce at 0) + height) (spans f) (around w i) sides' (omega arith) c;
      }
