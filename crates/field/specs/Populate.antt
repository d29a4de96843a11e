-- What `populate_from_trimesh` answers and leaves: a mesh, and the filters after an accepted one (docs/RULES.md, "Numbered replies").
use Rattle.std.specs.Prelude.{ℕ}
use Rattle.grid.specs.declared.Grid.{Grid}
use Rattle.grid.specs.Grid.{width, height}
use Rattle.clip.specs.declared.frame.Frame.{Frame}
use Rattle.clip.specs.Work.{frame_of}
use Rattle.field.specs.Field.{Field}
use Rattle.field.specs.Store.{Store, Outcome}
use Rattle.field.specs.Filters.{low_obstacles, ledges, low_ceilings}
use Rattle.field.specs.Carrying.{Meshed, placed, halted}
use Rattle.field.specs.Meshes.{Mesh, rasterized, Given}

-- the three filters in their order, on a grid of w × h
abbrev pub filtered_by : ℕ → ℕ → ℕ → ℕ → Field → Field
filtered_by w h tall climb f = low_ceilings tall (ledges w h tall climb (low_obstacles climb f))

-- a mesh that stopped is left as it is
abbrev pub afterwards : (Field → Field) → Meshed → Meshed
afterwards filter (placed f) = placed (filter f)
afterwards filter (halted reply t made f) = halted reply t made f

-- the climb is the threshold of all insertions
abbrev pub populated : Frame → Mesh → ℕ → ℕ → Field → Meshed
populated f m tall climb field = afterwards (filtered_by f.width f.height tall climb) (rasterized f m climb field)

abbrev pub Populated : Grid → Mesh → ℕ → ℕ → Store → Outcome → Type 0
Populated g m tall climb = Given g m (populated (frame_of g (width g) (height g)) m tall climb)
