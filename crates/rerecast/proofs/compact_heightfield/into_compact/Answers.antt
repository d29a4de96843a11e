-- `into_compact` meets its contract: the tests of every call, and past them the compact result.
use Rattle.std.proofs.Common.{rules}
use Rattle.rerecast.proofs.CompactCall.{compacted-field}
use Rattle.rerecast.proofs.compact_heightfield.into_compact.Goals as goal

pub returns : goal.returns
returns c =
    let s = c.args in
    compacted-field s.grid s.walkable_height s.climb c.min-shortest.result _ c.admit.new.marks _ c.min-shortest.ensures c.in_ok-size.size c.in_ok-size.ensures
    c.compact_field.new.compact (search rules) c.raised_top-top.ensures (c.compact_field.ensures.compacts s.marks.now)
