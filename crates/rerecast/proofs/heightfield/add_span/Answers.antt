-- `add_span` meets its contract: the tests of every call, and past them the offer.
use Rattle.std.proofs.Common.{rules}
use Rattle.rerecast.proofs.Admitted.{added-offered}
use Rattle.rerecast.proofs.heightfield.add_span.Goals as goal

pub returns : goal.returns
returns c =
    added-offered c.args.grid c.in_ok-size.size _ _ _ _ _ _ _ _ c.offer.new.slots _ (search rules) c.in_ok-size.ensures c.offer.ensures.offered
