-- What the readers of a compact result answer. They only read, so a call is what it says.
use Rattle.std.specs.Prelude.{◌≡◌, true, List, ℕ, ◌+◌, ◌*◌, ◌<◌, ◌≤◌, length, get_or, Result, Ok, Err}
use Rattle.replies.specs.Said.{Said, just, Asks}
use Rattle.grid.specs.declared.Grid.{Grid}
use Rattle.grid.specs.Grid.{width, height, columns, grid_says}
use Rattle.grid.specs.Directions.{step_x, step_z, stays}
use Rattle.grid.specs.declared.sizes.Size.{Size}
use Rattle.compact_reader.specs.declared.Refusal.{Refusal}
use Rattle.compact_reader.specs.Answer.{cell_said, neighbour_said, said_of_refusal}

-- both make these tests first: 1, 2, 3; then 4, where `Fitted` is what the call asks of its slices; then 8
abbrev pub Reads : Grid → Type 0 → ℕ → ℕ → (Said → Type 0) → Said → Type 0
Reads g Fitted x z next =
    Asks ((grid_says g).number ≡ 0) (grid_says g)
    (Asks Fitted (just 4)
    (Asks ((x < width g) × (z < height g)) (just 8) next))

-- ---- a cell

-- the index and the count that stand at the column's number
abbrev pub CellAtSays : Grid → List ℕ → List ℕ → ℕ → ℕ → Said → Type 0
CellAtSays g indices counts x z =
    let i = x + z * width g in
    Reads g ((columns g ≤ length indices) × (columns g ≤ length counts)) x z
    (λ o. o ≡ cell_said (get_or indices i 0) (get_or counts i 0))

-- ---- a neighbour

-- past the tests, on a grid of w × h: 13 for a direction above 3 or a layer above 62, then 8 for a step off the grid; else the neighbour's column, and
-- its span's number: the index of its cell and the layer
abbrev pub StepSays : ℕ → ℕ → List ℕ → ℕ → ℕ → ℕ → ℕ → Said → Type 0
StepSays w h indices x z d con =
    Asks ((d ≤ 3) × (con ≤ 62)) (just 13)
    (Asks (stays w h d x z ≡ true) (just 8)
    (λ o. o ≡ neighbour_said (step_x d x) (step_z d z) (get_or indices (step_x d x + step_z d z * w) 0 + con)))

abbrev pub ConIndicesSays : Grid → List ℕ → ℕ → ℕ → ℕ → ℕ → Said → Type 0
ConIndicesSays g indices x z d con = Reads g (columns g ≤ length indices) x z (StepSays (width g) (height g) indices x z d con)

-- ---- the shared tests, as one inner function makes them of the shortest slice; no public contract cites these

-- on the grid, with its size and the column's number
pub record Stands (g : Grid) (shortest x z : ℕ) (s : Size) (column : ℕ) : Type 0 where
  pub taken : (grid_says g).number ≡ 0
  pub wide : s.width ≡ width g
  pub high : s.height ≡ height g
  pub fits : columns g ≤ shortest
  pub at_x : x < width g
  pub at-z : z < height g
  pub number : column ≡ x + z * width g
  pub inside : column < columns g

abbrev pub Locates : Result (Size × ℕ) Refusal → Grid → ℕ → ℕ → ℕ → Type 0
Locates (Ok p) g shortest x z = Stands g shortest x z p.0 p.1
Locates (Err r) g shortest x z = Reads g (columns g ≤ shortest) x z (λ o. ⊥) (said_of_refusal r)
