-- From a polygon's coordinates to the rows and columns that it meets, and where they end (the rules, "Triangles to spans"). Definitions only.
use Rattle.std.specs.Prelude.{◌≡◌, ℕ, min, max, ℤ, pos, negsuc, Float}
use mathlib.Core.List.{List, [], ◌∷◌, foldl}
use Rattle.std.specs.Float.{binary32}
use Rattle.std.specs.Float.Ieee.{add, sub, mul, of_int, to_signed}
use Rattle.ops.specs.Order.{lesser_of, greater_of}
use Rattle.grid.specs.declared.Corner.{Corner}
use Rattle.clip.specs.declared.slices.Coordinate.{Coordinate}
use Rattle.clip.specs.declared.slices.Coordinate.TheVariants.{X, Y, Z}
use Rattle.clip.specs.Cut.{nought, x_of, y_of, z_of}

-- which of a vertex's numbers is read
abbrev pub read_of : Coordinate → Corner → Float
read_of X = x_of
read_of Y = y_of
read_of Z = z_of

-- numbers put together two by two, from the first on; none give 0
unfoldable pub together : (Float → Float → Float) → List Float → Float
together choice [] = nought
together choice (v ∷ vs) = foldl choice v vs

abbrev pub least_of : List Float → Float
least_of vs = together lesser_of vs

abbrev pub greatest_of : List Float → Float
greatest_of vs = together greater_of vs

-- a closure answers as a function of two numbers
abbrev pub Chooses : (Float → Float → Float → Type 0) → (Float → Float → Float) → Type 0
Chooses answers h = (a b r : Float) → answers a b r → r ≡ h a b

-- the number of the row or column that a coordinate lies in, counted from where the box starts
abbrev pub cell_of : Float → Float → Float → ℤ
cell_of start inverse v = to_signed 31 (mul binary32 (sub binary32 v start) inverse)

-- where a row or column ends: (start + number × size) + size
unfoldable pub edge_of : Float → Float → ℤ → Float
edge_of start size at = add binary32 (add binary32 start (mul binary32 (of_int binary32 at) size)) size

-- ---- a number held to low..high
unfoldable pub held_to : ℕ → ℕ → ℤ → ℕ
held_to low high (pos n) = max low (min n high)
held_to low high (negsuc n) = low

-- the first row or column, held to -1..last, and the last one, held to 0..last, where `last` is the grid's last
unfoldable pub held_first : ℕ → ℤ → ℤ
held_first last (pos n) = pos (min n last)
held_first last (negsuc n) = negsuc 0

abbrev pub held_last : ℕ → ℤ → ℕ
held_last last at = held_to 0 last at
