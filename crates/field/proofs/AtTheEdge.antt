-- The columns beside a column, worked out on a grid of 2 × 2: beyond an edge is none, though the flat number that a step gives may be another column's.
use mathlib.Core.Path.{◌≡◌, refl}
use mathlib.Core.List.{[], ◌∷◌}
use Rattle.field.specs.Slots.{none}
use Rattle.field.specs.Beside.{beside}

-- columns 0 and 1 lie in the first row, 2 and 3 in the second
pub edges : (beside 2 2 0 ≡ none ∷ 2 ∷ 1 ∷ none ∷ []) × (beside 2 2 1 ≡ 0 ∷ 3 ∷ none ∷ none ∷ []) × (beside 2 2 2 ≡ none ∷ none ∷ 3 ∷ 0 ∷ []) × (beside 2 2 3 ≡ 2 ∷ none ∷ none ∷ 1 ∷ [])
edges = (refl, refl, refl, refl)
