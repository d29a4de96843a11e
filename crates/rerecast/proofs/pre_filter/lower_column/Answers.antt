-- `lower_column` meets its contract.
use Rattle.field.proofs.Upward.{roof-of, upward-start, upward-step, upward-end}
use Rattle.rerecast.specs.Lent.{contents_in}
use Rattle.rerecast.proofs.Columns.{chain-reached}
use Rattle.rerecast.proofs.pre_filter.lower_column.Goals as goal

pub loop-at-init : goal.loop-at-init
loop-at-init c =
    let chain = c.requires.is_chain in
    let up = upward-start _ _ _ _ _ _ _ chain.1.0 chain.1.1 in
    (up, chain-reached up.left up.here)

pub loop-at-preserved : goal.loop-at-preserved
loop-at-preserved c =
    let here = contents_in c.args.columns.now c.loop-at.areas in
    let up = upward-step c.loop-at.invariant.0 c.loop-at-test.true (λ tl k. rw (roof-of here tl k) (rw c.roof_of-roof.ensures at c.lower.ensures)) in
    (up, chain-reached up.left up.here)

pub returns : goal.returns
returns c = upward-end c.loop-at.invariant.0 c.loop-at-test.false
