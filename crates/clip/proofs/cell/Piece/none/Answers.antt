-- `clip::cell::Piece::none` meets its contract.
use mathlib.Core.Path.{refl}
use lib.Ieee.{of_bits}
use Rattle.clip.specs.Slices.{together}
use Rattle.clip.proofs.cell.Piece.none.Goals as goal

pub returns : goal.returns
unfolding of_bits together
returns c = refl
