-- The loop's invariant: what is left of the chain is one of unmarked slots whose spans ascend exactly if the whole is. The measure is how many slots are
-- not marked.
use Rattle.field.specs.Marks.{unmarked, Climbs}
use Rattle.field.proofs.Marking.{Marking}
use Rattle.rerecast.proofs.soundness.mark_column.Given as goal

abbrev pub invariant-loop-at : goal.invariant-loop-at
invariant-loop-at l =
    Marking l.columns.nexts.now l.initial.marks l.head (Climbs l.columns.floors.now l.columns.ceilings.now 0) l.marks l.at l.n
    (Climbs l.columns.floors.now l.columns.ceilings.now l.low)

abbrev pub decreases-loop-at : goal.decreases-loop-at
decreases-loop-at l = unmarked l.marks
