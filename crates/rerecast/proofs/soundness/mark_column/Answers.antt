-- `mark_column` meets its contract.
use mathlib.Core.Path.{refl}
use Rattle.field.proofs.Marking.{marking-less, marking-out, marking-twice, marking-low, marking-thin, marking-climb, marking-end}
use Rattle.rerecast.proofs.soundness.mark_column.Goals as goal
use Rattle.rerecast.proofs.soundness.mark_column.Goals.{then-i-columns-via-then-i-columns, then-i-columns-via-else-i-columns+then-marks-i-ne0}
use Rattle.rerecast.proofs.soundness.mark_column.Goals.{then-floor-low-via-then-floor-low, then-floor-low-via-else-floor-low+then-ceiling-floor}

pub returns-then-i-columns : goal.returns-then-i-columns
returns-then-i-columns c =
    elim c.then-i-columns.branch [
      | then-i-columns-via-then-i-columns w ↦ marking-out c.loop-at.invariant c.loop-at-test.true w.if-i-columns.true
      | then-i-columns-via-else-i-columns+then-marks-i-ne0 w ↦ marking-twice c.loop-at.invariant c.loop-at-test.true w.if-marks-i-ne0.true
    ]

pub returns-then-floor-low : goal.returns-then-floor-low
returns-then-floor-low c =
    elim c.then-floor-low.branch [
      | then-floor-low-via-then-floor-low w ↦ marking-low _ _ c.loop-at.invariant c.loop-at-test.true refl c.from-floor.ensures w.if-floor-low.true
      | then-floor-low-via-else-floor-low+then-ceiling-floor w ↦
          marking-thin _ _ c.loop-at.invariant c.loop-at-test.true refl c.from-floor.ensures c.from-ceiling.ensures w.if-ceiling-floor.true
    ]

pub loop-at-smaller : goal.loop-at-smaller
loop-at-smaller c = marking-less c.loop-at.invariant c.if-i-columns.false c.if-marks-i-ne0.false

pub loop-at-preserved : goal.loop-at-preserved
loop-at-preserved c =
    marking-climb _ _ c.loop-at.invariant c.loop-at-test.true refl c.from-floor.ensures c.from-ceiling.ensures
    c.if-i-columns.false c.if-marks-i-ne0.false c.if-floor-low.false c.if-ceiling-floor.false

pub returns : goal.returns
returns c = marking-end c.loop-at.invariant tt c.loop-at-test.false
