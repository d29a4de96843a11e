-- The loop's invariant: what is left of the chain is one of unmarked slots exactly if the whole is. The measure is how many slots are not marked.
use Rattle.field.specs.Marks.{unmarked, Any}
use Rattle.field.proofs.Marking.{Marking}
use Rattle.rerecast.proofs.soundness.mark_free.Given as goal

abbrev pub invariant-loop-at : goal.invariant-loop-at
invariant-loop-at l = Marking l.nexts l.initial.marks l.head Any l.marks l.at l.n Any

abbrev pub decreases-loop-at : goal.decreases-loop-at
decreases-loop-at l = unmarked l.marks
