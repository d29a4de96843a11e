-- `pre_filter::lv_filter_low_hanging_walkable_obstacles` meets its contract: the library filters, and its reply is told.
use Rattle.rerecast.specs.Answer.{said_of}
use Rattle.c_api.proofs.pre_filter.lv_filter_low_hanging_walkable_obstacles.Goals as goal

pub returns : goal.returns
returns c =
    let called = c.filter_low_hanging_walkable_obstacles-answer in
    (said_of called.result, rw c.grid_of.ensures at called.ensures, c.tell.ensures)
