-- `count_column` meets its contract.
use mathlib.Core.Path.{refl}
use native.Mathlib.Omega.{arith}
use borrow.Author.Tests.{eq-eqb, ne_eqb}
use Rattle.field.proofs.Chains.{chain-cons, chain-less}
use Rattle.field.proofs.Tallying.{tallying-slot, tallying-step, tallying-end}
use Rattle.rerecast.proofs.compact_heightfield.count_column.Goals as goal
use Rattle.rerecast.proofs.compact_heightfield.count_column.Goals.{then-areas-i-ne-NOT_WALKABLE, else-areas-i-ne-NOT_WALKABLE}

pub bounds-areas-i : goal.bounds-areas-i
bounds-areas-i c = omega (arith, tallying-slot c.loop-at.invariant c.loop-at-test.true, c.loop-at.invariant.sizes)

pub bounds-columns-i : goal.bounds-columns-i
bounds-columns-i c = omega (arith, tallying-slot c.loop-at.invariant c.loop-at-test.true)

pub overflow_add-n : goal.overflow_add-n
overflow_add-n c = omega (arith, tallying-slot c.loop-at.invariant c.loop-at-test.true)

pub loop-at-smaller : goal.loop-at-smaller
loop-at-smaller c =
    let p = c.loop-at.invariant in
    let k = chain-cons p.left p.here c.loop-at-test.true in
    chain-less p.left k.0 p.here k.1 k.2

pub loop-at-preserved : goal.loop-at-preserved
loop-at-preserved c =
    tallying-step c.loop-at.invariant c.loop-at-test.true
    (elim c.if-areas-i-ne-NOT_WALKABLE.branch [
      | then-areas-i-ne-NOT_WALKABLE w ↦ rw (w.n-is, ne_eqb _ _ w.if-areas-i-ne-NOT_WALKABLE.true) refl
      | else-areas-i-ne-NOT_WALKABLE w ↦ rw (w.n-is, eq-eqb _ _ w.if-areas-i-ne-NOT_WALKABLE.false) refl
    ])

pub returns : goal.returns
returns c = tallying-end c.loop-at.invariant c.loop-at-test.false
