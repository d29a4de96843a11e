-- `CompactSpan::set_height` meets its contract, by the law of the bits: the height changes, and the links stay.
use Rattle.std.proofs.Common.{ap}
use Rattle.compact_span.specs.Span.{span_of, with_height}
use Rattle.compact_span.proofs.Bits.{height-law}
use Rattle.compact_span.proofs.CompactSpan.set_height.Goals as goal

pub returns : goal.returns
unfolding with_height
returns c = ap (span_of c.args.self.y) (height-law c.args.self.«data» c.args.height c.ranges.height.fits)
