-- `mark_free` meets its contract.
use mathlib.Core.Path.{refl}
use Rattle.field.proofs.Marking.{run_out, run-twice, run_room, run_step, run-less, marking-end}
use Rattle.rerecast.proofs.soundness.mark_free.Goals as goal
use Rattle.rerecast.proofs.soundness.mark_free.Goals.{then-i-nexts-via-then-i-nexts, then-i-nexts-via-else-i-nexts+then-marks-i-ne0}

pub returns-then-i-nexts : goal.returns-then-i-nexts
returns-then-i-nexts c =
    elim c.then-i-nexts.branch [
      | then-i-nexts-via-then-i-nexts w ↦ run_out c.loop-at.invariant c.loop-at-test.true refl c.mark_run-i.ensures w.if-i-nexts.true
      | then-i-nexts-via-else-i-nexts+then-marks-i-ne0 w ↦ run-twice c.loop-at.invariant c.loop-at-test.true refl c.mark_run-i.ensures w.if-marks-i-ne0.true
    ]

pub overflow_sub-n : goal.overflow_sub-n
overflow_sub-n c = (run_room c.loop-at.invariant c.loop-at-test.true refl c.mark_run-i.ensures).0

pub loop-at-smaller : goal.loop-at-smaller
loop-at-smaller c = run-less c.loop-at.invariant c.loop-at-test.true refl c.mark_run-i.ensures c.if-i-nexts.false c.if-marks-i-ne0.false

pub loop-at-preserved : goal.loop-at-preserved
loop-at-preserved c = run_step c.loop-at.invariant c.loop-at-test.true refl c.mark_run-i.ensures c.if-i-nexts.false c.if-marks-i-ne0.false

pub returns : goal.returns
returns c = marking-end c.loop-at.invariant tt c.loop-at-test.false
