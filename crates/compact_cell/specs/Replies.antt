-- What raising a cell's count replies.
use Rattle.std.specs.Prelude.{cond, List, ℕ, Result, Ok, Err, ltb, get_or}
use Rattle.replies.specs.Said.{Said, just}
use Rattle.compact_cell.specs.declared.Full.{Full}
use Rattle.compact_cell.specs.declared.RaiseError.{RaiseError}
use Rattle.compact_cell.specs.declared.RaiseError.TheVariants as error
use Rattle.compact_cell.specs.Cell.{is_cell}

-- what each answer says, whatever it carries where it accepts
abbrev pub said_of : {T : Type 0} → Result T Full → Said
said_of (Ok x) = just 0
said_of (Err e) = just 11

abbrev pub said_of_error : RaiseError → Said
said_of_error error.NoCell = just 4
said_of_error error.Full = just 11

abbrev pub said_of_at : {T : Type 0} → Result T RaiseError → Said
said_of_at (Ok x) = just 0
said_of_at (Err e) = said_of_error e

-- a count below 255 has room for one more span; at 255 the column is full (reply 11)
abbrev pub raise_says : ℕ → Said
raise_says n = cond (ltb n 255) (just 0) (just 11)

-- the same of the cell at a place, which the slices must be long enough for (reply 4)
abbrev pub raise_at_says : List ℕ → List ℕ → ℕ → Said
raise_at_says indices counts p = cond (is_cell indices counts p) (raise_says (get_or counts p 0)) (just 4)
