-- The loop's invariant: what is counted, and what is left of the column, make the count of the whole. The column gets shorter.
use lib.ListN.{length}
use Rattle.field.specs.Inner.{slots_from}
use Rattle.field.proofs.Tallying.{Tallying}
use Rattle.rerecast.proofs.compact_heightfield.count_column.Given as goal

abbrev pub invariant-loop-at : goal.invariant-loop-at
invariant-loop-at l = Tallying l.areas l.columns.nexts.now l.fn.head l.n l.at

abbrev pub decreases-loop-at : goal.decreases-loop-at
decreases-loop-at l = length (slots_from l.columns.nexts.now l.at)
