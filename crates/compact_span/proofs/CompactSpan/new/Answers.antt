-- `CompactSpan::new` meets its contract: the word is the height's with four empty links.
use Rattle.std.proofs.Common.{ap}
use Rattle.compact_span.specs.Span.{span_of, fresh_span}
use Rattle.compact_span.proofs.Bits.{new-law}
use Rattle.compact_span.proofs.CompactSpan.new.Goals as goal

pub returns : goal.returns
unfolding fresh_span
returns c = ap (span_of c.args.y) (new-law c.args.height c.ranges.height.fits)
