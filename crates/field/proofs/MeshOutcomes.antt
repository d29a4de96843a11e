-- No second outcome for the calls that take a mesh or one triangle.
use mathlib.Core.Path.{◌≡◌, subst}
use Prim.Native.Nat.{ℕ}
use Rattle.replies.specs.Said.{just}
use Rattle.replies.proofs.Laws.{One, asks-one}
use Rattle.grid.specs.declared.Corner.{Corner}
use Rattle.grid.specs.declared.Grid.{Grid}
use Rattle.grid.specs.Grid.{width, height, columns}
use Rattle.clip.specs.Work.{frame_of}
use Rattle.field.specs.Field.{Field}
use Rattle.field.specs.Store.{Store, Fitting, cleared, left, Ends}
use Rattle.field.specs.Carrying.{Meshed, says_of, leaves}
use Rattle.field.specs.Meshes.{Mesh, single, rasterized, Shaped, Named, vertices_say, Builds, Takes, Given, Rasterized}
use Rattle.field.specs.Populate.{populated, Populated}
use Rattle.field.proofs.Unique.{field_fixed}
use Rattle.field.proofs.Outcomes.{ends-one, admits-one}

-- whatever is made of the field that the store holds
builds-one : (n : ℕ) (build : Field → Meshed) (s : Store) → One (Builds n build s)
builds-one n build s o o' a b =
    let e : b.0 ≡ a.0 = field_fixed b.1 a.1 in
    ends-one n s (says_of (build a.0)) (leaves (build a.0)) o o' a.2 (subst (λ (f : Field). Ends n s (says_of (build f)) (leaves (build f)) o') e b.2)

given-one : (g : Grid) (m : Mesh) (build : Field → Meshed) (s : Store) → One (Given g m build s)
given-one g m build s =
    admits-one left g (Fitting (columns g) s × Shaped m) s (Takes (columns g) m build s)
    (asks-one (Named m) (left (just 10) (cleared s)) _
    (asks-one ((vertices_say m).number ≡ 0) (left (vertices_say m) (cleared s)) _ (builds-one (columns g) build s)))

-- a mesh
pub rasterized-one : (g : Grid) (m : Mesh) (th : ℕ) (s : Store) → One (Rasterized g m th s)
rasterized-one g m th s = given-one g m (rasterized (frame_of g (width g) (height g)) m th) s

-- one triangle
pub triangle-one : (g : Grid) (a b c : Corner) (area th : ℕ) (s : Store) → One (Rasterized g (single a b c area) th s)
triangle-one g a b c area th s = rasterized-one g (single a b c area) th s

-- a mesh and the filters
pub populated-one : (g : Grid) (m : Mesh) (tall climb : ℕ) (s : Store) → One (Populated g m tall climb s)
populated-one g m tall climb s = given-one g m (populated (frame_of g (width g) (height g)) m tall climb) s
