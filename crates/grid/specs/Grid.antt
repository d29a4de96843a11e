-- The limits of a grid's numbers, its width and height in cells, and what its tests say: replies 1, 2 and 3.
-- (The rules, "Numbers" and "Numbered replies".) Definitions only.
use Rattle.std.specs.Prelude.{ℕ, ◌*◌, Bool, true, false, ◌&&◌, ◌||◌, cond, List, [], ◌∷◌, ◌++◌, leb, ltb, ℤ, pos, negsuc, nat_abs, Float}
use Rattle.std.specs.Int.Signed.{le_z}
use Rattle.std.specs.Float.{fin, binary32}
use Rattle.std.specs.Float.Ieee.{le, lt, sub, div, add, to_signed}
use Rattle.replies.specs.Said.{Said, whole, real, say, just}
use Rattle.grid.specs.declared.Corner.{Corner}
use Rattle.grid.specs.declared.Grid.{Grid}

-- ---- limits

-- from low to high, both counted in; no NaN and no infinity is
abbrev pub from_to : Float → Float → Float → Bool
from_to low high x = le low x && le x high

-- a coordinate: -262,144 to 262,144, which is 2 ^ 18
unfoldable pub coordinate_ok : Float → Bool
coordinate_ok x = from_to (fin true 1 (pos 18)) (fin false 1 (pos 18)) x

-- cell size and cell height: 1/1024 to 1024, which are 2 ^ -10 and 2 ^ 10
unfoldable pub cell_ok : Float → Bool
cell_ok x = from_to (fin false 1 (negsuc 9)) (fin false 1 (pos 10)) x

-- ---- width and height

-- (high - low) / cell size + 0.5 in f32, one rounding per operation
unfoldable pub across : Float → Float → Float → Float
across low high size = add binary32 (div binary32 (sub binary32 high low) size) (fin false 1 (negsuc 0))

abbrev pub width_float : Grid → Float
width_float g = across g.min.x g.max.x g.cell_size

abbrev pub height_float : Grid → Float
height_float g = across g.min.z g.max.z g.cell_size

-- a whole number where it is from 1 to 4,096, and 0 where it is not
unfoldable pub or_none : ℤ → ℕ
or_none n = cond (le_z (pos 1) n && le_z n (pos 4096)) (nat_abs n) 0

-- truncated, where that is inside the limits
abbrev pub cells : Float → ℕ
cells x = or_none (to_signed 31 x)

unfoldable pub width : Grid → ℕ
width g = cells (width_float g)

unfoldable pub height : Grid → ℕ
height g = cells (height_float g)

abbrev pub columns : Grid → ℕ
columns g = width g * height g

-- both are inside their limits, and so is the product
unfoldable pub size_ok : ℕ → ℕ → Bool
size_ok w h = ltb 0 w && (ltb 0 h && leb (w * h) 1048576)

abbrev pub sized : Grid → Bool
sized g = size_ok (width g) (height g)

-- ---- the tests

-- a number, and whether it is inside its limits
pub record Tested : Type 0 where
  pub number : Float
  pub inside : Bool

abbrev pub coordinate : Float → Tested
coordinate x = record { number = x; inside = coordinate_ok x }

abbrev pub cell : Float → Tested
cell x = record { number = x; inside = cell_ok x }

abbrev pub corner : Corner → List Tested
corner p = coordinate p.x ∷ coordinate p.y ∷ coordinate p.z ∷ []

abbrev pub sizes : Grid → List Tested
sizes g = cell g.cell_size ∷ cell g.cell_height ∷ []

-- the grid's numbers in the order of their tests
abbrev pub numbers : Grid → List Tested
numbers g = corner g.min ++ (corner g.max ++ sizes g)

-- reply 1 with the first number outside its limits; where all are inside, what comes next
unfoldable pub first_outside : List Tested → Said → Said
first_outside [] next = next
first_outside (t ∷ ts) next = cond t.inside (first_outside ts next) (say 1 (real t.number ∷ []))

-- the least corner is above the greatest on some axis
unfoldable pub box_above : Grid → Bool
box_above g = lt g.max.x g.min.x || (lt g.max.y g.min.y || lt g.max.z g.min.z)

-- the width and the height, or reply 3 with both floats
unfoldable pub size_says : Grid → Said
size_says g =
    cond (sized g)
    (say 0 (whole (width g) ∷ whole (height g) ∷ []))
    (say 3 (real (width_float g) ∷ real (height_float g) ∷ []))

-- reply 1, then 2, then 3
unfoldable pub grid_says : Grid → Said
grid_says g = first_outside (numbers g) (cond (box_above g) (just 2) (size_says g))
