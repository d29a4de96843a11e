-- How the calls for C take a grid and tell what a reply says. The replies and what they leave are the library's own definitions.
use Rattle.std.specs.Prelude.{◌≡◌, List, [], ◌∷◌, ◌++◌, map, ℕ, get_or, take, Float}
use Rattle.std.specs.Float.{nan, binary32}
use Rattle.std.specs.Float.Ieee.{to_bits}
use Rattle.replies.specs.Said.{Said, Value, whole, real}
use Rattle.grid.specs.declared.Grid.{Grid}

-- eight floats: the least x, y, z, the greatest x, y, z, the cell size and the cell height
abbrev pub grid_of : List Float → Grid
grid_of g =
    record {
      min = record { x = get_or g 0 nan; y = get_or g 1 nan; z = get_or g 2 nan };
      max = record { x = get_or g 3 nan; y = get_or g 4 nan; z = get_or g 5 nan };
      cell_size = get_or g 6 nan;
      cell_height = get_or g 7 nan;
    }

-- a value as one word: a float by its bits, every NaN as 0x7fc00000
abbrev pub word_of : Value → ℕ
word_of (whole n) = n
word_of (real x) = to_bits binary32 x

-- the values as four words, 0 where there are no more
abbrev pub words_of : List Value → List ℕ
words_of vs = take 4 (map word_of vs ++ (0 ∷ 0 ∷ 0 ∷ 0 ∷ []))

-- a call that says `s` returns its number, and leaves its values' words
pub record Tells (s : Said) (result : ℕ) (words : List ℕ) : Type 0 where
  pub number : result ≡ s.number
  pub values : words ≡ words_of s.values

-- a call tells C something of which P holds
abbrev pub Answers : (Said → Type 0) → ℕ → List ℕ → Type 0
Answers P result words = (s : Said) × P s × Tells s result words
