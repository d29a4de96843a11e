-- `raise_column` meets its contract.
use mathlib.Core.Path.{refl}
use Rattle.field.proofs.Upward.{upward-start, upward-step, upward-end}
use Rattle.rerecast.proofs.Columns.{chain-reached}
use Rattle.rerecast.proofs.pre_filter.raise_column.Goals as goal

pub loop-at-init : goal.loop-at-init
unfolding upward-start
loop-at-init c =
    let chain = c.requires.is_chain in
    let up = upward-start _ _ _ _ _ _ _ chain.1.0 chain.1.1 in
    (up, refl, chain-reached up.left up.here)

pub loop-at-preserved : goal.loop-at-preserved
unfolding upward-step
loop-at-preserved c =
    let p = c.loop-at.invariant in
    rw c.change_byte.ensures
    (let up = upward-step p.0 c.loop-at-test.true (λ tl k. c.raise.ensures _ p.0.below p.1) in (up, (refl, refl), chain-reached up.left up.here))

pub returns : goal.returns
returns c = upward-end c.loop-at.invariant.0 c.loop-at-test.false
