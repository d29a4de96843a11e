-- The code's operations are the definition's, and its literal is one half.
use mathlib.Core.Path.{refl}
use lib.Ieee.{of_bits}
use Rattle.grid.specs.Grid.{across}
use Rattle.grid.proofs.side_length.Goals as goal

pub returns : goal.returns
unfolding of_bits across
returns c = refl
