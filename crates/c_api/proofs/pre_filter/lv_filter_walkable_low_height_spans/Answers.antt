-- `pre_filter::lv_filter_walkable_low_height_spans` meets its contract: the library filters, and its reply is told.
use Rattle.rerecast.specs.Answer.{said_of}
use Rattle.c_api.proofs.pre_filter.lv_filter_walkable_low_height_spans.Goals as goal

pub returns : goal.returns
returns c =
    let called = c.filter_walkable_low_height_spans-answer in
    (said_of called.result, rw c.grid_of.ensures at called.ensures, c.tell.ensures)
