-- `compact_heightfield::lv_into_compact` meets its contract: the library fills the result, and its reply is told.
use Rattle.rerecast.specs.Answer.{told_of}
use Rattle.c_api.proofs.compact_heightfield.lv_into_compact.Goals as goal

pub returns : goal.returns
returns c =
    let called = c.into_compact-answer in
    (told_of called.result, rw c.grid_of.ensures at called.ensures, c.tell_top.ensures)
