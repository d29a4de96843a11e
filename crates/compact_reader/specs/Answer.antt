-- What the answers of the readers say: the number and the values of the rules.
use Rattle.std.specs.Prelude.{[], ◌∷◌, ℕ, Result, Ok, Err}
use Rattle.replies.specs.Said.{Said, whole, say, just}
use Rattle.grid.specs.Answer.{said_of_error}
use Rattle.compact_cell.specs.declared.CompactCell.{CompactCell}
use Rattle.compact_reader.specs.declared.Neighbour.{Neighbour}
use Rattle.compact_reader.specs.declared.Refusal.{Refusal}
use Rattle.compact_reader.specs.declared.Refusal.TheVariants as refusal

abbrev pub said_of_refusal : Refusal → Said
said_of_refusal (refusal.Grid e) = said_of_error e
said_of_refusal refusal.Slices = just 4
said_of_refusal refusal.OffGrid = just 8
said_of_refusal refusal.NoLink = just 13

-- a cell: its index and its count
abbrev pub cell_said : ℕ → ℕ → Said
cell_said index count = say 0 (whole index ∷ whole count ∷ [])

-- a neighbour: its column, and the number of its span
abbrev pub neighbour_said : ℕ → ℕ → ℕ → Said
neighbour_said x z span = say 0 (whole x ∷ whole z ∷ whole span ∷ [])

abbrev pub said_of_cell_at : Result CompactCell Refusal → Said
said_of_cell_at (Ok c) = cell_said c.index c.count
said_of_cell_at (Err r) = said_of_refusal r

abbrev pub said_of_con_indices : Result Neighbour Refusal → Said
said_of_con_indices (Ok n) = neighbour_said n.x n.z n.span
said_of_con_indices (Err r) = said_of_refusal r
