-- The loop's invariant: the first columns are marked.
use Rattle.field.proofs.Surveying.{Surveyed}
use Rattle.rerecast.proofs.soundness.mark_columns.Given as goal

abbrev pub invariant-loop-head : goal.invariant-loop-head
invariant-loop-head l = Surveyed l.columns.heads.now l.columns.floors.now l.columns.ceilings.now l.columns.nexts.now l.marks l.head-index l.n
