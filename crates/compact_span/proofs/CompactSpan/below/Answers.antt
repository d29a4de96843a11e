-- `CompactSpan::below` meets its contract: a shift makes room for six bits, and they are set.
use Rattle.std.proofs.Common.{min, arith}
use Rattle.compact_span.proofs.Bits.{below-law}
use Rattle.compact_span.proofs.CompactSpan.below.Goals as goal

pub returns : goal.returns
returns c = rw c.min.ensures (below-law c.args.upper (min c.args.link 63) (omega arith))
