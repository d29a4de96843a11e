-- `skip` meets its contract.
use native.Mathlib.Omega.{arith}
use Rattle.field.proofs.Chains.{chain-cons}
use Rattle.field.proofs.Upward.{roof-of}
use Rattle.field.proofs.Cursors.{cursor-next}
use Rattle.rerecast.specs.Lent.{contents_in}
use Rattle.rerecast.proofs.Columns.{chain-reached}
use Rattle.rerecast.proofs.ledges.skip.Goals as goal

pub loop-at-init : goal.loop-at-init
loop-at-init c = let chain = c.requires.is_chain in (chain, chain-reached _ chain.1, λ areas whole k. k)

pub loop-at-preserved : goal.loop-at-preserved
loop-at-preserved c =
    let p = c.loop-at.invariant in
    let k = chain-cons p.0.0 p.0.1 c.loop-at-test.true in (
      (k.0, k.2),
      chain-reached _ k.2,
      λ areas whole C.
          cursor-next (p.2 areas whole C) c.loop-at-test.true
          (λ tl h. rw (roof-of (contents_in c.args.columns.now areas) tl h) (omega (arith, c.roof_of.ensures))),
    )
