-- The data word of a compact span. The rules pack four links of six bits from bit 0, and the height from bit 24:
-- six bits are one digit in base 64, so a word is a number of four such digits, direction 0 lowest, with the height above them.
use Rattle.std.specs.Prelude.{List, [], ◌∷◌, ℕ, zero, suc, ◌+◌, ◌-◌, ◌*◌, ◌/◌, ◌%◌, ◌^◌, min}

-- the number that digits in base 64 make, lowest first
abbrev pub base64 : List ℕ → ℕ
base64 [] = 0
base64 (l ∷ ls) = l + 64 * base64 ls

-- the n lowest digits of x in base 64
abbrev pub digits : ℕ → ℕ → List ℕ
digits zero x = []
digits (suc n) x = x % 64 ∷ digits n (x / 64)

-- the word of a height and four links
abbrev pub word : ℕ → List ℕ → ℕ
word h ls = h * 2 ^ 24 + base64 ls

-- what a word holds: its links, by direction, and its height
abbrev pub links : ℕ → List ℕ
links x = digits 4 x

abbrev pub height_of : ℕ → ℕ
height_of x = x / 2 ^ 24

-- the mark of an empty link
abbrev pub empty_mark : ℕ
empty_mark = 63

-- the links of a span that has none
abbrev pub no_links : List ℕ
no_links = empty_mark ∷ empty_mark ∷ empty_mark ∷ empty_mark ∷ []

-- a link number that came from outside: one that six bits can't hold counts as empty
abbrev pub held : ℕ → ℕ
held l = min l empty_mark

-- the height of the open space from a ceiling to what is above it: at least 0, at most 255
abbrev pub gap_of : ℕ → ℕ → ℕ
gap_of ceiling top = min (top - ceiling) 255
