-- A place on a grid and the number of its column.
use Prim.Native.Nat.{ℕ, ◌+◌, ◌*◌, ◌<◌}
use native.Mathlib.Nat.{mul_comm, mul-le-mul_right, suc-mul}
use native.Mathlib.Omega.{arith}

-- the column at x, z is one of the grid's
pub cell_below : (x z w h : ℕ) → x < w → z < h → x + z * w < w * h
cell_below x z w h p q = omega (arith, suc-mul z w, mul-le-mul_right w q, mul_comm w h)
