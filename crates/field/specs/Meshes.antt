-- Meshes: their triangles and the work of each, and what the calls that take a mesh answer and leave (docs/RULES.md, "Numbered replies").
use Rattle.std.specs.Prelude.{◌≡◌, List, [], ◌∷◌, map, ℕ, ◌+◌, ◌*◌, ◌/◌, ◌%◌, ◌<◌, ◌≤◌, length, get_or, take, Float}
use Rattle.std.specs.Float.{nan}
use Rattle.replies.specs.Said.{Said, just, Asks}
use Rattle.grid.specs.declared.Corner.{Corner}
use Rattle.grid.specs.declared.Grid.{Grid}
use Rattle.grid.specs.Grid.{width, height, columns, coordinate, first_outside}
use Rattle.clip.specs.declared.frame.Frame.{Frame}
use Rattle.clip.specs.Work.{frame_of, triangle_events}
use Rattle.field.specs.Field.{Field, Holds}
use Rattle.field.specs.Store.{Store, Fitting, cleared, Outcome, left, Admits, Ends}
use Rattle.field.specs.Carrying.{Meshed, says_of, leaves, Work, carry_mesh}

-- three numbers for each vertex, three vertex numbers for each triangle, and an area for each triangle
pub record Mesh : Type 0 where
  pub vertices : List Float
  pub indices : List ℕ
  pub areas : List ℕ

abbrev pub mesh : List Float → List ℕ → List ℕ → Mesh
mesh vertices indices areas = record { vertices = vertices; indices = indices; areas = areas }

-- a single triangle is a mesh of one
abbrev pub single : Corner → Corner → Corner → ℕ → Mesh
single a b c area = mesh (a.x ∷ a.y ∷ a.z ∷ b.x ∷ b.y ∷ b.z ∷ c.x ∷ c.y ∷ c.z ∷ []) (0 ∷ 1 ∷ 2 ∷ []) (area ∷ [])

-- ---- the work

abbrev pub vertex_of : Mesh → ℕ → Corner
vertex_of m i = record { x = get_or m.vertices (i * 3) nan; y = get_or m.vertices (i * 3 + 1) nan; z = get_or m.vertices (i * 3 + 2) nan }

-- the corner that stands at a place of the indices
abbrev pub corner_at : Mesh → ℕ → Corner
corner_at m at = vertex_of m (get_or m.indices at 0)

abbrev pub corners_of : Mesh → ℕ → List Corner
corners_of m t = corner_at m (t * 3) ∷ corner_at m (t * 3 + 1) ∷ corner_at m (t * 3 + 2) ∷ []

-- the work of triangle t
abbrev pub work_of : Frame → Mesh → ℕ → Work
work_of f m t = record { area = get_or m.areas t 0; events = triangle_events f (corners_of m t) }

-- all triangles from the first on
abbrev pub rasterized : Frame → Mesh → ℕ → Field → Meshed
rasterized f m threshold field = carry_mesh f.width threshold (work_of f m) (length m.areas) 0 0 field

-- ---- the tests

-- what reply 4 asks of a mesh, by the lengths of its slices
pub record Shape (vertices indices areas : ℕ) : Type 0 where
  pub threes : vertices % 3 ≡ 0
  pub triangles : indices ≡ areas * 3
  pub few : areas ≤ 16777216

abbrev pub Shaped : Mesh → Type 0
Shaped m = Shape (length m.vertices) (length m.indices) (length m.areas)

-- what reply 10 asks: every index names a vertex
abbrev pub Named : Mesh → Type 0
Named m = (k : ℕ) → k < length m.indices → get_or m.indices k 0 < length m.vertices / 3

-- reply 1 over the vertex numbers as they lie, used or not
abbrev pub vertices_say : Mesh → Said
vertices_say m = first_outside (map coordinate m.vertices) (just 0)

-- ---- the call

-- the field that the store holds, and what `build` makes of it
abbrev pub Builds : ℕ → (Field → Meshed) → Store → Outcome → Type 0
Builds n build s o = (f : Field) × Holds (take n s.heads) s.slots f × Ends n s (says_of (build f)) (leaves (build f)) o

-- 10, then 1 over the vertex numbers, before the first cut
abbrev pub Takes : ℕ → Mesh → (Field → Meshed) → Store → Outcome → Type 0
Takes n m build s =
    Asks (Named m) (left (just 10) (cleared s))
    (Asks ((vertices_say m).number ≡ 0) (left (vertices_say m) (cleared s))
    (Builds n build s))

-- 1, 2, 3, 4, 14, then 10 and 1, then 0, 5, 6 or 7
abbrev pub Given : Grid → Mesh → (Field → Meshed) → Store → Outcome → Type 0
Given g m build s = Admits left g (Fitting (columns g) s × Shaped m) s (Takes (columns g) m build s)

abbrev pub Rasterized : Grid → Mesh → ℕ → Store → Outcome → Type 0
Rasterized g m threshold = Given g m (rasterized (frame_of g (width g) (height g)) m threshold)
