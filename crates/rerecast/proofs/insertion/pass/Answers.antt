-- `pass` meets its contract.
use native.Mathlib.Omega.{arith}
use Rattle.field.proofs.Chains.{chain-slot, chain-cons, chain-less}
use Rattle.field.proofs.Passing.{passing-start, passing_step, passing-stop, passing-end}
use Rattle.rerecast.proofs.insertion.pass.Goals as goal

pub loop-at-init : goal.loop-at-init
loop-at-init c = passing-start _ _ _ _ c.requires.is_chain.0 c.requires.is_chain.1

pub bounds-slots-i : goal.bounds-slots-i
bounds-slots-i c = let p = c.loop-at.invariant in omega (arith, chain-slot p.left p.here c.loop-at-test.true, c.requires.even)

pub returns-then-slots-i : goal.returns-then-slots-i
returns-then-slots-i c = passing-stop c.loop-at.invariant c.loop-at-test.true c.if-slots-i.true

pub bounds-slots-i-in-loop-at : goal.bounds-slots-i-in-loop-at
bounds-slots-i-in-loop-at c = let p = c.loop-at.invariant in chain-slot p.left p.here c.loop-at-test.true

pub loop-at-smaller : goal.loop-at-smaller
loop-at-smaller c =
    let p = c.loop-at.invariant in
    let k = chain-cons p.left p.here c.loop-at-test.true in
    chain-less p.left k.0 p.here k.1 k.2

pub loop-at-preserved : goal.loop-at-preserved
loop-at-preserved c = passing_step c.loop-at.invariant c.loop-at-test.true c.if-slots-i.false

pub returns-after-loop-at : goal.returns-after-loop-at
returns-after-loop-at c = passing-end c.loop-at.invariant c.loop-at-test.false
