-- `fresh` meets its contract: the grid's tests, and past them the store's.
use Rattle.std.proofs.Common.{rules}
use Rattle.rerecast.proofs.Admitted.{fresh-left}
use Rattle.rerecast.proofs.heightfield.fresh.Goals as goal

pub returns : goal.returns
returns c = fresh-left c.args.grid c.in_ok-size.size c.in_ok-size.ensures _ _ _ _ c.fresh_store.new.slots (search rules) c.fresh_store.ensures.fresh
