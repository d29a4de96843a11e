-- `mark_columns` meets its contract.
use Rattle.field.proofs.Surveying.{surveyed-start, surveyed-broken, surveyed-step}
use Rattle.rerecast.proofs.soundness.mark_columns.Goals as goal

pub loop-head-init : goal.loop-head-init
loop-head-init c = surveyed-start _ _ _ _ _ c.requires.even c.requires.no_marks.0 c.requires.no_marks.1

pub returns-in_err-n : goal.returns-in_err-n
returns-in_err-n c = rw c.from_residual.ensures (surveyed-broken c.loop-head.invariant c.loop-head-test.true c.in_err-n.ensures)

pub loop-head-preserved : goal.loop-head-preserved
loop-head-preserved c = surveyed-step c.loop-head.invariant c.loop-head-test.true c.in_ok-n.ensures c.mark_column.auto.marks
