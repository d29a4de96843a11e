-- What the answers of this crate's functions say: the number and the values of the rules. Definitions only.
use Rattle.std.specs.Prelude.{◌≡◌, List, [], ◌∷◌, Option, Some, None, Result, Ok, Err, Float}
use Rattle.replies.specs.Said.{Said, whole, real, say, just}
use Rattle.grid.specs.Grid.{Tested, first_outside}
use Rattle.grid.specs.declared.sizes.Size.{Size}
use Rattle.grid.specs.declared.GridError.{GridError}
use Rattle.grid.specs.declared.GridError.TheVariants.{BadNumber, BoxOrder, GridSize}

-- a refusal: 1, 2 or 3
abbrev pub said_of_error : GridError → Said
said_of_error (BadNumber x) = say 1 (real x ∷ [])
said_of_error BoxOrder = just 2
said_of_error (GridSize w h) = say 3 (real w ∷ real h ∷ [])

-- 0 with the width and the height, or the refusal
abbrev pub said_of : Result Size GridError → Said
said_of (Ok s) = say 0 (whole s.width ∷ whole s.height ∷ [])
said_of (Err e) = said_of_error e

-- reply 1 where a number outside was found, and what comes next where none was
abbrev pub unless : Option Float → Said → Said
unless None next = next
unless (Some x) next = say 1 (real x ∷ [])

-- r is what a test of these numbers finds
abbrev pub Finds : Option Float → List Tested → Type 0
Finds r ts = (next : Said) → unless r next ≡ first_outside ts next
