-- The cells beside a column, as the code holds them: the rows are long enough for them, and show the layers that the rule speaks of.
use mathlib.Core.Path.{◌≡◌, refl, ap, ap₂, ◌∙◌}
use mathlib.Core.Bool.{true}
use mathlib.Core.Logic.{◌≢◌}
use mathlib.Core.List.{List, [], ◌∷◌, map}
use Prim.Native.Nat.{ℕ, zero, suc, ◌+◌, ◌*◌, ◌<◌}
use native.Mathlib.Omega.{arith}
use borrow.Author.Tests.{ltb-true}
use lib.ListN.{length, get_or}
use Rattle.std.specs.Prelude.{Option, Some, None, MatchOption}
use Rattle.grid.specs.Directions.{step_x, step_z, stays, StepsTo}
use Rattle.field.specs.Slots.{none}
use Rattle.field.specs.Beside.{beside}
use Rattle.field.specs.Open.{Open, space}
use Rattle.field.specs.Links.{passes, around, word_of, missed_of}
use Rattle.field.specs.Rowing.{bare, Shown}
use Rattle.field.proofs.Sides.{Beside, beside-shown, beside-inside, word-bare, missed-of-bare}
use Rattle.rerecast.specs.Compacting.{side_of, Beside as BesideAt, layers_of, Within}
use Rattle.rerecast.specs.declared.sides.Side.{Side}

-- ---- the column beside a place

-- a step that does not leave the grid leads to a place on it
stays-on : (w h d : ℕ) {x z : ℕ} → x < w → z < h → stays w h d x z ≡ true → (step_x d x < w) × (step_z d z < h)
stays-on w h zero a b s = (omega arith, b)
stays-on w h (suc zero) a b s = (a, ltb-true _ _ s)
stays-on w h (suc (suc zero)) a b s = (ltb-true _ _ s, b)
stays-on w h (suc (suc (suc d))) a b s = (a, omega arith)

-- such a step has a column, whose number is the rule's
pub beside-found : (w h d x z x' z' : ℕ) (found : Option ℕ) → (x < w) × (z < h) → StepsTo (Some (x', z')) w h d x z
    → MatchOption found ((x' < w) × (z' < h) → ⊥) (λ i. ((x' < w) × (z' < h)) × ((i ≡ x' + z' * w) × (i < w * h))) → BesideAt found w h x z d
beside-found w h d x z x' z' (Some i) g t c = (rw (t.0, ← t.1.0, ← t.1.1) c.1.0, c.1.1)
beside-found w h d x z x' z' None g t c = absurd (c (rw (t.1.0, t.1.1) (stays-on w h d g.0 g.1 t.0)))

-- and where none stays there is none
pub beside-missing : (w h d x z : ℕ) → StepsTo None w h d x z → BesideAt None w h x z d
beside-missing w h d x z s = (rw s, tt)

-- ---- the cells there

module _ {cs : List (List Open)} {ix sz ys ws : List ℕ} (S : Shown cs ix sz ys ws) where
  -- each number is a column's, or none
  abbrev Inside : List ℕ → Type 0
  Inside ks = (d : ℕ) → get_or ks d none ≢ none → get_or ks d none < length cs

  side : (k : ℕ) → (k ≢ none → k < length cs) → Beside cs ys ws k (side_of ix sz k).first (side_of ix sz k).count
  side k i = beside-shown S refl refl i

  within_of : (ks : List ℕ) → Inside ks → Within ys ws (map (side_of ix sz) ks)
  within_of [] i = tt
  within_of (k ∷ ks) i =
      let b = side k (i 0) in
      (record { in_ys = b.in_ys; in_words = b.in_words; climbs = b.climbs }, within_of ks (λ d. i (suc d)))

  layers-of : (ks : List ℕ) → Inside ks → layers_of ys ws (map (side_of ix sz) ks) ≡ map (map bare) (map (λ k. get_or cs k []) ks)
  layers-of [] i = refl
  layers-of (k ∷ ks) i =
      ap₂ (λ (a : List Open) (l : List (List Open)). a ∷ l) (side k (i 0)).here (layers-of ks (λ d. i (suc d)))

  module _ (w h i : ℕ) (e : length cs ≡ w * h) (l : i < w * h) {sides : List Side} (es : sides ≡ map (side_of ix sz) (beside w h i)) where
    all-inside : Inside (beside w h i)
    all-inside d n = omega (arith, beside-inside w h i d l n)

    pub sides-within : Within ys ws sides
    sides-within = rw es (within_of (beside w h i) all-inside)

    sides-layers : layers_of ys ws sides ≡ map (map bare) (around w h cs i)
    sides-layers = ap (layers_of ys ws) es ∙ layers-of (beside w h i) all-inside

    -- what the code finds for an open space is what the rule says of it
    module _ (tall climb : ℕ) (o : Open) {y height : ℕ} (eo : space y height 0 ≡ bare o) where
      pub word-is : {v : ℕ} → v ≡ word_of (passes tall climb) (layers_of ys ws sides) (space y height 0) → v ≡ word_of (passes tall climb) (around w h cs i) o
      word-is ev =
          ev ∙ ap₂ (λ (a : List (List Open)) (b : Open). word_of (passes tall climb) a b) sides-layers eo ∙ word-bare tall climb (around w h cs i) o

      pub missed-is : {v : ℕ} → v ≡ missed_of (passes tall climb) (layers_of ys ws sides) (space y height 0) → v ≡ missed_of (passes tall climb) (around w h cs i) o
      missed-is ev =
          ev ∙ ap₂ (λ (a : List (List Open)) (b : Open). missed_of (passes tall climb) a b) sides-layers eo
          ∙ missed-of-bare tall climb (around w h cs i) o
