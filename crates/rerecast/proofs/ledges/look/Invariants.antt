-- The loop's invariant: looking at what is left of the column ends as looking at the whole, so it may stop at a drop and at a span that is too high.
use lib.ListN.{length}
use Rattle.field.specs.Inner.{slots_from}
use Rattle.field.proofs.LookingUp.{LookingUp}
use Rattle.field.specs.LedgeTest.{view}
use mathlib.Core.Bool.{false}
use Rattle.rerecast.specs.PreFilter.{stand_of, reach_of}
use Rattle.rerecast.proofs.Columns.{Reached}
use Rattle.rerecast.proofs.ledges.look.Given as goal

abbrev pub invariant-loop-at : goal.invariant-loop-at
invariant-loop-at l =
    let columns = l.columns in
    LookingUp columns.floors.now columns.ceilings.now columns.nexts.now l.s (stand_of l.st) (reach_of l.fn.start) (view false l.low l.high) l.at
    × Reached columns.nexts.now l.at

abbrev pub decreases-loop-at : goal.decreases-loop-at
decreases-loop-at l = length (slots_from l.columns.nexts.now l.at)
