-- Floats against one another and against whole numbers (IEEE 754; `lib.Ieee`). Definitions only.
use Rattle.std.specs.Prelude.{suc, true, false, cond, ℤ, pos, negsuc, Float}
use Rattle.std.specs.Float.{fin}
use Rattle.std.specs.Float.Ieee.{lt}

-- the lesser of two: the second where it is below the first, and else the first
unfoldable pub lesser_of : Float → Float → Float
lesser_of a b = cond (lt b a) b a

-- the greater of two: the second where it is above the first, and else the first
unfoldable pub greater_of : Float → Float → Float
greater_of a b = cond (lt a b) b a

-- a whole number as a float value, exactly: no format limits its digits
abbrev pub exactly : ℤ → Float
exactly (pos n) = fin false n (pos 0)
exactly (negsuc n) = fin true (suc n) (pos 0)
