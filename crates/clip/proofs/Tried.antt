-- Triangles of the rules' examples, worked out: the one left of the grid that leaves column (0, 0) empty, and one each that reply 6 and reply 7 stop.
use mathlib.Core.Path.{◌≡◌, refl}
use mathlib.Core.List.{List, [], ◌∷◌}
use Prim.Native.Nat.{ℕ}
use lib.Ieee.{binary32, of_bits, round, add, sub, mul, div, lt, le, of_int, to_signed}
use Rattle.ops.specs.Round.{floor_to, ceil_to}
use Rattle.ops.specs.Order.{lesser_of, greater_of}
use Rattle.grid.specs.declared.Corner.{Corner}
use Rattle.grid.specs.declared.Grid.{Grid}
use Rattle.clip.specs.Cut.{crossing_of, to_first, to_second, onward, around, cut_of}
use Rattle.clip.specs.Slices.{together, edge_of, held_to, held_first}
use Rattle.clip.specs.Snap.{floor_of, ceiling_of, snapped}
use Rattle.clip.specs.Work.{Event, insert, stop, and_then, frame_of, slices, cell_events, row_events, meets_of, triangle_events}

-- floats by their bits
abbrev corner : ℕ → ℕ → ℕ → Corner
corner x y z = record { x = of_bits binary32 x; y = of_bits binary32 y; z = of_bits binary32 z }

-- from (0, 0, 0) on, with cells 1
abbrev box : Corner → Grid
box far = record { min = corner 0 0 0; max = far; cell_size = of_bits binary32 0x3f80_0000; cell_height = of_bits binary32 0x3f80_0000 }

abbrev events_of : Corner → ℕ → ℕ → List Corner → List Event
events_of far width height vs = triangle_events (frame_of (box far) width height) vs

-- In turn:
-- box to (4, 8, 4), the triangle left of the grid whose corners are at x = -2, -0.5 and 1.5: nothing for column (0, 0);
-- box to (4, 8, 5), corners (9, 0, 8), (1 + 2^-23, 0, 2 - 2^-23) and (0, 0, 0): three insertions, and then a cut would write an eighth vertex;
-- box to (1, 131072, 1), a triangle at height 65,535: reply 7.
pub worked : (events_of (corner 0x4080_0000 0x4100_0000 0x4080_0000) 4 4 (corner 0xc000_0000 0x3f80_0000 0x3f00_0000 ∷ corner 0xbf00_0000 0x3f80_0000 0x3f00_0000 ∷ corner 0x3fc0_0000 0x3f80_0000 0x4090_0000 ∷ [])
    ≡ insert 0 1 1 2 ∷ insert 0 2 1 2 ∷ insert 0 3 1 2 ∷ insert 1 3 1 2 ∷ [])
    × (events_of (corner 0x4080_0000 0x4100_0000 0x40a0_0000) 4 5 (corner 0x4110_0000 0 0x4100_0000 ∷ corner 0x3f80_0001 0 0x3fff_ffff ∷ corner 0 0 0 ∷ [])
    ≡ insert 0 0 0 1 ∷ insert 1 0 0 1 ∷ insert 0 1 0 1 ∷ stop 6 ∷ [])
    × (events_of (corner 0x3f80_0000 0x4800_0000 0x3f80_0000) 1 1 (corner 0x3e80_0000 0x477f_ff00 0x3e80_0000 ∷ corner 0x3f40_0000 0x477f_ff00 0x3e80_0000 ∷ corner 0x3e80_0000 0x477f_ff00 0x3f40_0000 ∷ [])
    ≡ stop 7 ∷ [])
unfolding of_bits round add sub mul div lt le of_int to_signed floor_to ceil_to lesser_of greater_of crossing_of to_first to_second onward around cut_of together edge_of held_to held_first floor_of ceiling_of snapped and_then frame_of slices cell_events row_events meets_of triangle_events
worked = (refl, refl, refl)
