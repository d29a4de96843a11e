-- What raising a cell's count leaves, in one cell and in slices that hold a cell at each place.
use Rattle.std.specs.Prelude.{Bool, cond, ◌&&◌, List, ℕ, ◌+◌, min, ltb, length, get_or, set}
use Rattle.compact_cell.specs.declared.CompactCell.{CompactCell}

-- a cell from its two fields
abbrev pub cell_of : ℕ → ℕ → CompactCell
cell_of i n = record { index = i; count = n }

-- the count with one more span; 255 stays
abbrev pub count_after : ℕ → ℕ
count_after n = min (n + 1) 255

-- the whole cell with one more span
abbrev pub raised_cell : CompactCell → CompactCell
raised_cell c = cell_of c.index (count_after c.count)

-- whether a place is a cell of the slices
abbrev pub is_cell : List ℕ → List ℕ → ℕ → Bool
is_cell indices counts p = ltb p (length indices) && ltb p (length counts)

-- all counts, with the one at a place raised; a place that is no cell changes nothing
abbrev pub raised_counts : List ℕ → List ℕ → ℕ → List ℕ
raised_counts indices counts p = cond (is_cell indices counts p) (set counts p (count_after (get_or counts p 0))) counts
