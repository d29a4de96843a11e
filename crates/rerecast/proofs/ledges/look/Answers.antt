-- `look` meets its contract.
use mathlib.Core.Path.{refl, sym}
use native.Mathlib.Omega.{arith}
use borrow.Author.Tests.{leb-false}
use Rattle.field.proofs.LookingUp.{looking-start, looking-step, looking-drop, looking-stop, looking-end}
use Rattle.rerecast.proofs.Columns.{chain-reached}
use Rattle.rerecast.proofs.ledges.look.Goals as goal

pub loop-at-init : goal.loop-at-init
loop-at-init c =
    let chain = c.requires.is_chain in
    (looking-start _ _ chain.0 chain.1.0 chain.1.1 c.requires.height_bound.1, chain-reached _ chain.1.0)

pub loop-at-preserved : goal.loop-at-preserved
loop-at-preserved c =
    let further = looking-step c.loop-at.invariant.0 c.loop-at-test.true (omega arith) (rw c.roof_of-floor.ensures at c.in-Some.ensures) in
    (further, chain-reached further.left further.here)

pub returns-in_default : goal.returns-in_default
returns-in_default c areas ss k =
    let further = looking-step c.loop-at.invariant.0 c.loop-at-test.true (omega arith) refl in
    let drop = rw c.roof_of-floor.ensures at c.in_default.ensures in
    rw (← looking-drop further drop areas ss k) drop

pub returns-after-loop-at : goal.returns-after-loop-at
returns-after-loop-at c = looking-end c.loop-at.invariant.0 c.loop-at-test.false

pub returns-then-not-has_room : goal.returns-then-not-has_room
returns-then-not-has_room c = looking-stop c.loop-at.invariant.0 c.loop-at-test.true (leb-false _ _ (sym c.if-not-has_room.ensures))
