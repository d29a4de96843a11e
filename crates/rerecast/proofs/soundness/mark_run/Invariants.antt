-- The loop's invariant: the slots before `i` are marked in turn.
use Rattle.field.specs.Marks.{InTurn}
use Rattle.rerecast.proofs.soundness.mark_run.Given as goal

abbrev pub invariant-loop-i : goal.invariant-loop-i
invariant-loop-i l = InTurn l.nexts l.initial.marks l.from l.i l.marks
