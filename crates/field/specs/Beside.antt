-- The columns beside a column (docs/RULES.md, "What is ported").
use Rattle.std.specs.Prelude.{cond, List, [], ◌∷◌, ℕ, ◌+◌, ◌*◌, ◌/◌, ◌%◌}
use Rattle.grid.specs.Directions.{step_x, step_z, stays}
use Rattle.field.specs.Slots.{none}

-- the number of the column that lies beside x, z in direction d; `none` stands for one that is off the grid of w × h
abbrev pub beside_in : ℕ → ℕ → ℕ → ℕ → ℕ → ℕ
beside_in w h d x z = cond (stays w h d x z) (step_x d x + step_z d z * w) none

-- the four, in the order of the directions
abbrev pub beside_at : ℕ → ℕ → ℕ → ℕ → List ℕ
beside_at w h x z = beside_in w h 0 x z ∷ beside_in w h 1 x z ∷ beside_in w h 2 x z ∷ beside_in w h 3 x z ∷ []

-- the four beside column number `i`
abbrev pub beside : ℕ → ℕ → ℕ → List ℕ
beside w h i = beside_at w h (i % w) (i / w)
