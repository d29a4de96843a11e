-- What the answers of a mesh's tests mean. No public contract cites this file.
use Rattle.std.specs.Prelude.{◌≡◌, List, ℕ, length, replicate, Result, Ok, Err}
use Rattle.replies.specs.Said.{just, Asks}
use Rattle.grid.specs.declared.Grid.{Grid}
use Rattle.grid.specs.declared.sizes.Size.{Size}
use Rattle.grid.specs.Grid.{width, height, columns, grid_says}
use Rattle.field.specs.Field.{Field}
use Rattle.field.specs.Store.{Store, store, Fitting, Sound, left}
use Rattle.field.specs.Carrying.{Meshed}
use Rattle.field.specs.Meshes.{Mesh, Shaped, Named, vertices_say, Given}
use Rattle.rerecast.specs.Answer.{refusal_says}
use Rattle.rerecast.specs.declared.Refusal.{Refusal}

-- 10 and 1 are passed, or one of them is given
abbrev pub AdmitsNumbers : Result Unit Refusal → Mesh → Type 0
AdmitsNumbers (Ok done) m = Named m × ((vertices_say m).number ≡ 0)
AdmitsNumbers (Err r) m = Asks (Named m) (just 10) (Asks ((vertices_say m).number ≡ 0) (vertices_say m) (λ o. ⊥)) (refusal_says r)

-- all tests are passed, and the marks are 0
pub record Passes (w h : ℕ) (g : Grid) (m : Mesh) (s : Store) (marks' : List ℕ) : Type 0 where
  pub fine : (grid_says g).number ≡ 0
  pub wide : w ≡ width g
  pub high : h ≡ height g
  pub fits : Fitting (columns g) s
  pub sound : Sound (columns g) s
  pub zeros : marks' ≡ replicate (length s.slots.nexts) 0
  pub shaped : Shaped m
  pub named : Named m
  pub inside : (vertices_say m).number ≡ 0

-- a refusal does not depend on what the call would make of the field
abbrev pub AdmitsMesh : Result Size Refusal → Grid → Mesh → Store → List ℕ → Type 0
AdmitsMesh (Ok size) g m s marks' = Passes size.width size.height g m s marks'
AdmitsMesh (Err r) g m s marks' = (build : Field → Meshed) → Given g m build s (left (refusal_says r) (store s.heads s.slots marks'))
