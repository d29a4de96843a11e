-- `mark_run` meets its contract.
use Rattle.field.specs.Marks.{InTurn}
use Rattle.rerecast.proofs.soundness.mark_run.Goals as goal

pub loop-i-init : goal.loop-i-init
loop-i-init c = InTurn.start

pub loop-i-preserved : goal.loop-i-preserved
loop-i-preserved c = InTurn.then c.loop-i.invariant c.loop-i-test.true c.if-nexts-i.false c.if-marks-i-ne0.false
