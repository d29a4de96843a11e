-- What the inner functions of the rasteriser promise one another. No public contract cites this file.
use Rattle.std.specs.Prelude.{◌≡◌, List, [], ◌∷◌, ℕ, suc, ◌-◌, ℤ, pos, Float}
use Rattle.std.proofs.Math.IntN.{pred_ℤ}
use Rattle.grid.specs.declared.Corner.{Corner}
use Rattle.clip.specs.declared.cut.Axis.{Axis}
use Rattle.clip.specs.Cut.{Cut, parts, eighth}
use Rattle.clip.specs.Work.{Event, stop, slices, within}
use Rattle.field.specs.Slots.{Slots}
use Rattle.field.specs.Field.{Field, Holds}
use Rattle.field.specs.Carrying.{Carried, Meshed, Work, carry, carry_mesh}

-- Of work that comes to `o` the events `es` are left: n insertions were made, and the store holds the field as they leave it.
pub record Remains (width threshold area : ℕ) (o : Carried) (n : ℕ) (es : List Event) (heads : List ℕ) (t : Slots) : Type 0 where
  pub field : Field
  pub holds : Holds heads t field
  pub comes : carry width threshold area n field es ≡ o

-- Loops count rows and columns from the one before the grid on: 0 is number -1.
abbrev pub numbered : ℕ → ℤ
numbered k = pred_ℤ (pos k)

-- what a cut gives to row or column k: reply 6, nothing, or what its part gives
abbrev pub turn_events : Cut → (ℕ → List Corner → List Event) → ℕ → List Event
turn_events (parts part rest) gives k = within gives (numbered k) part
turn_events eighth gives k = stop 6 ∷ []

-- rows or columns k to `last`, so counted, of what remains
abbrev pub turns_to : Axis → (ℤ → Float) → (ℕ → List Corner → List Event) → ℕ → ℕ → List Corner → List Event
turns_to axis edge gives last k vs = slices axis edge (λ at part. within gives at part) (suc last - k) (numbered k) vs

-- Of a mesh that comes to `o` the triangles from number t on are left, `count` in all, and the store holds the field as it is by then.
pub record MeshRemains (width threshold : ℕ) (works : ℕ → Work) (o : Meshed) (count t : ℕ) (heads : List ℕ) (s : Slots) : Type 0 where
  pub field : Field
  pub holds : Holds heads s field
  pub comes : carry_mesh width threshold works (count - t) t 0 field ≡ o
