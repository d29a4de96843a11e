-- `fresh_store` meets its contract: the test of the slices, and past it each list filled.
use Rattle.std.proofs.Common.{inr, rules}
use Rattle.field.proofs.Emptying.{fresh-made}
use Rattle.rerecast.proofs.heightfield.fresh_store.Goals as goal

pub returns-clause-fresh : goal.returns-clause-fresh
returns-clause-fresh c =
    let f = rw c.columns-n.ensures at c.if-not-fit.ensures in
    inr (f, fresh-made _ _ _ _ c.columns-n.ensures f (search rules) (search rules) (search rules) (search rules) c.chain_slots.ensures)
