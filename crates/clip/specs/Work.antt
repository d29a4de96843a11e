-- The work of one triangle: its insertions in the order of work, ended by a stop where reply 6 or 7 is given (the rules, "Triangles to spans"). Definitions only.
use Rattle.std.specs.Prelude.{ℕ, zero, suc, ◌-◌, Bool, false, ◌&&◌, ◌||◌, cond, List, [], ◌∷◌, map, ltb, length, ℤ, pos, negsuc, Float}
use Rattle.std.proofs.Math.IntN.{suc_ℤ}
use Rattle.std.specs.Int.Signed.{lt_z, le_z}
use Rattle.std.specs.Float.{fin, binary32}
use Rattle.std.specs.Float.Ieee.{le, sub, div}
use Rattle.grid.specs.declared.Corner.{Corner}
use Rattle.grid.specs.declared.Grid.{Grid}
use Rattle.clip.specs.declared.cut.Axis.{Axis}
use Rattle.clip.specs.declared.cut.Axis.TheVariants.{X, Z}
use Rattle.clip.specs.declared.frame.Frame.{Frame}
use Rattle.clip.specs.Cut.{x_of, y_of, z_of, along, Cut, parts, eighth, cut_of}
use Rattle.clip.specs.Slices.{least_of, greatest_of, cell_of, edge_of, held_first, held_last}
use Rattle.clip.specs.Snap.{max_height, snapped}

-- an insertion with its x, z, floor and ceiling, or a stop with its reply's number
pub data Event : Type 0 where
  insert : ℕ → ℕ → ℕ → ℕ → Event
  stop : ℕ → Event

-- some work, and then more unless it stopped
unfoldable pub and_then : List Event → List Event → List Event
and_then [] more = more
and_then (insert x z floor ceiling ∷ es) more = insert x z floor ceiling ∷ and_then es more
and_then (stop n ∷ es) more = stop n ∷ []

-- ---- what the work needs of a grid with its width and height in cells: both inverses and the height of the box
abbrev pub one : Float
one = fin false 1 (pos 0)

unfoldable pub frame_of : Grid → ℕ → ℕ → Frame
frame_of g width height =
    record {
      grid = g;
      inverse = div binary32 one g.cell_size;
      rise = div binary32 one g.cell_height;
      tall = sub binary32 g.max.y g.min.y;
      width = width;
      height = height;
    }

-- ---- rows and columns, which are cut one after the other from what remains
abbrev pub on_cut : Cut → (List Corner → List Event) → (List Corner → List Event) → List Event
on_cut (parts first second) near rest = and_then (near first) (rest second)
on_cut eighth near rest = stop 6 ∷ []

-- `count` of them, from number `at` on
unfoldable pub slices : Axis → (ℤ → Float) → (ℤ → List Corner → List Event) → ℕ → ℤ → List Corner → List Event
slices axis edge gives zero at rest = []
slices axis edge gives (suc count) at rest =
    on_cut (cut_of axis (edge at) rest) (λ part. gives at part) (λ more. slices axis edge gives count (suc_ℤ at) more)

-- row and column -1 give nothing, nor do parts with fewer than 3 vertices
abbrev pub within : (ℕ → List Corner → List Event) → ℤ → List Corner → List Event
within gives (negsuc n) part = []
within gives (pos n) part = cond (ltb (length part) 3) [] (gives n part)

-- how many there are from the first to the last
abbrev pub from_to : ℤ → ℕ → ℕ
from_to (pos first) last = suc last - first
from_to (negsuc n) last = suc (suc last)

-- the numbers reach into low..high; touching counts
abbrev pub reaches_of : Float → Float → List Float → Bool
reaches_of low high vs = le (least_of vs) high && le low (greatest_of vs)

module _ (f : Frame) where
  -- along x these are columns, along z rows
  abbrev pub start : Axis → Float
  start axis = along axis f.grid.min

  abbrev pub cells : Axis → ℕ
  cells X = f.width
  cells Z = f.height

  abbrev pub first_cell : Axis → List Corner → ℤ
  first_cell axis vs = cell_of (start axis) f.inverse (least_of (map (along axis) vs))

  abbrev pub last_cell : Axis → List Corner → ℤ
  last_cell axis vs = cell_of (start axis) f.inverse (greatest_of (map (along axis) vs))

  abbrev pub edge_at : Axis → ℤ → Float
  edge_at axis at = edge_of (start axis) f.grid.cell_size at

  abbrev pub sliced : Axis → (ℕ → List Corner → List Event) → List Corner → List Event
  sliced axis gives vs =
      let first = held_first (cells axis - 1) (first_cell axis vs) in
      let last = held_last (cells axis - 1) (last_cell axis vs) in
      slices axis (λ at. edge_at axis at) (λ at part. within gives at part) (from_to first last) first vs

  -- ---- a part in row z and column x: nothing, reply 7, or one insertion
  unfoldable pub cell_events : ℕ → ℕ → List Corner → List Event
  cell_events z x part =
      snapped max_height (least_of (map y_of part)) (greatest_of (map y_of part)) f.grid.min.y f.tall f.rise
      []
      (stop 7 ∷ [])
      (λ floor ceiling. insert x z floor ceiling ∷ [])

  -- ---- a part in row z, which is skipped where it ends before the grid or begins behind it
  unfoldable pub row_events : ℕ → List Corner → List Event
  row_events z part =
      cond (lt_z (last_cell X part) (pos 0) || le_z (pos f.width) (first_cell X part))
      []
      (sliced X (λ x cell. cell_events z x cell) part)

  -- ---- a triangle: nothing where its box does not overlap the grid's
  unfoldable pub meets_of : List Corner → Bool
  meets_of vs =
      let min = f.grid.min in
      let max = f.grid.max in
      reaches_of min.x max.x (map x_of vs) && (reaches_of min.y max.y (map y_of vs) && reaches_of min.z max.z (map z_of vs))

  unfoldable pub triangle_events : List Corner → List Event
  triangle_events vs = cond (meets_of vs) (sliced Z (λ z row. row_events z row) vs) []
