-- `heightfield::lv_add_span` meets its contract: the library takes the span, and its reply is told.
use Rattle.rerecast.specs.Answer.{said_of}
use Rattle.c_api.proofs.heightfield.lv_add_span.Goals as goal

pub returns : goal.returns
returns c =
    let called = c.add_span-answer in
    (said_of called.result, rw c.grid_of.ensures at called.ensures, c.tell.ensures)
