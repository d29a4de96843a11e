-- `admit` meets its contract: the grid's tests, and past them the store's.
use Rattle.std.proofs.Common.{Ok, Err}
use Rattle.std.proofs.lemmas.Result.{err_from_is_err_and}
use Rattle.rerecast.proofs.Admitted.{granted, admits-call}
use Rattle.rerecast.proofs.admission.admit.Goals as goal

pub returns-in_err-admit_store : goal.returns-in_err-admit_store
returns-in_err-admit_store c =
    let p = err_from_is_err_and c.from_residual-in_err-admit_store.result c.from_residual-in_err-admit_store.ensures.1 in
    rw (p.1, p.2) (admits-call (Err _) _ c.in_ok-size.size _ _ _ (granted c.args.grid c.in_ok-size.size c.in_ok-size.ensures) c.in_err-admit_store.ensures)

pub returns : goal.returns
returns c = admits-call (Ok tt) _ c.in_ok-size.size _ _ _ (granted c.args.grid c.in_ok-size.size c.in_ok-size.ensures) c.in_ok-admit_store.ensures
