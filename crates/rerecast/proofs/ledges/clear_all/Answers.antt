-- `clear_all` meets its contract.
use mathlib.Core.Path.{refl}
use Rattle.field.proofs.Upward.{upward-start, upward-step, upward-end}
use Rattle.rerecast.proofs.Columns.{chain-reached}
use Rattle.rerecast.proofs.ledges.clear_all.Goals as goal

pub loop-at-init : goal.loop-at-init
loop-at-init c =
    let chain = c.requires.is_chain in
    let up = upward-start _ _ _ _ _ _ _ chain.1.0 chain.1.1 in
    (up, chain-reached up.left up.here)

pub loop-at-preserved : goal.loop-at-preserved
loop-at-preserved c =
    let up = upward-step c.loop-at.invariant.0 c.loop-at-test.true (λ tl k. refl) in
    (up, chain-reached up.left up.here)

pub returns : goal.returns
returns c = upward-end c.loop-at.invariant.0 c.loop-at-test.false
