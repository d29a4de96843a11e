-- The tests stand in the order of `grid_says`: the numbers, the box's order, the size.
use Rattle.std.proofs.Common.{sym}
use Rattle.grid.specs.Grid.{grid_says, numbers}
use Rattle.grid.proofs.FirstOutside.{found, none_found}
use Rattle.grid.proofs.check.Goals as goal

pub returns-in-Some : goal.returns-in-Some
unfolding grid_says
returns-in-Some c = sym (found (numbers _) c.number_outside.ensures c.in-Some.is _)

pub returns-then-box_above : goal.returns-then-box_above
unfolding grid_says
returns-then-box_above c =
    rw (none_found (numbers _) c.number_outside.ensures c.in_default.is, ← c.box_above.ensures, c.if-box_above.true)

pub returns : goal.returns
unfolding grid_says
returns c =
    rw (none_found (numbers _) c.number_outside.ensures c.in_default.is)
    (rw (← c.box_above.ensures, c.if-box_above.false) c.size.ensures)
