-- A box worked through: from (0, 0, 0) to (4, 8, 4) with cells of 1 it is 4 cells wide and 4 high.
use mathlib.Core.Path.{◌≡◌, refl}
use mathlib.Core.Bool.{false}
use mathlib.Core.List.{[], ◌∷◌}
use Prim.Native.Nat.{ℕ}
use lib.IntN.{pos}
use lib.Ieee.{Float, fin, add, sub, div, round, le, lt, to_signed}
use Rattle.replies.specs.Said.{whole, say}
use Rattle.grid.specs.Grid.{grid_says, first_outside, coordinate_ok, cell_ok, box_above, size_says, size_ok, width, height, or_none, across}
use Rattle.grid.specs.declared.Grid.{Grid}

-- 2 ^ e
abbrev power : ℕ → Float
power e = fin false 1 (pos e)

abbrev zero : Float
zero = fin false 0 (pos 0)

abbrev pub box : Grid
box =
    record {
      min = record { x = zero; y = zero; z = zero };
      max = record { x = power 2; y = power 3; z = power 2 };
      cell_size = power 0;
      cell_height = power 0;
    }

pub four-by-four : grid_says box ≡ say 0 (whole 4 ∷ whole 4 ∷ [])
unfolding grid_says first_outside coordinate_ok cell_ok box_above size_says size_ok width height or_none across add sub div round le lt to_signed
four-by-four = refl
