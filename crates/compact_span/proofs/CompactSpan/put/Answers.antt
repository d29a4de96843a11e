-- `CompactSpan::put` meets its contract, by the law of the bits: one link changes, and the rest stays.
use Rattle.std.proofs.Common.{◌^◌, ◌<◌, ap, arith}
use Rattle.compact_span.specs.declared.CompactSpan.{CompactSpan}
use Rattle.compact_span.specs.Span.{span_of, with_link}
use Rattle.compact_span.proofs.Bits.{put-law}
use Rattle.compact_span.proofs.CompactSpan.put.Goals as goal

pub returns : goal.returns
unfolding with_link
returns c =
    let s : CompactSpan = c.args.self in
    let hx : s.«data» < 2 ^ 32 = omega (arith, c.well_formed.0) in
    ap (span_of s.y) (put-law s.«data» c.args.dir c.args.number hx c.requires.0 c.requires.1)
