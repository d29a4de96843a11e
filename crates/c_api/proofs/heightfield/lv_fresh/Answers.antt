-- `heightfield::lv_fresh` meets its contract: the library makes the fresh field, and its reply is told.
use Rattle.rerecast.specs.Answer.{said_of}
use Rattle.c_api.proofs.heightfield.lv_fresh.Goals as goal

pub returns : goal.returns
returns c =
    let called = c.fresh-answer in
    (said_of called.result, rw c.grid_of.ensures at called.ensures, c.tell.ensures)
