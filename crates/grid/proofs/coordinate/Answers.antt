-- The two tests are those of the definition, whose limits are the code's literals.
use lib.Ieee.{of_bits, neg}
use Rattle.grid.specs.Grid.{coordinate_ok}
use Rattle.grid.proofs.coordinate.Goals as goal

pub returns-then-x : goal.returns-then-x
unfolding coordinate_ok of_bits neg
returns-then-x c = rw c.if-x.true

pub returns-else-x : goal.returns-else-x
unfolding coordinate_ok of_bits neg
returns-else-x c = rw c.if-x.false
