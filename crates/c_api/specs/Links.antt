-- How the calls for C change and read a link of a data word. The word is that of a span; where the span starts has no part in it.
use Rattle.std.specs.Prelude.{◌≡◌, cond, ℕ, Option, eqb}
use Rattle.compact_span.specs.Span.{span_of, link_at, with_link}
use Rattle.compact_span.specs.Replies.{number_of, set_con_says, con_says}

-- a link is set: the result is the reply's number, and the word is the changed one where that is 0, and else as it was
pub record SetsLink (word dir : ℕ) (link : Option ℕ) (result word' : ℕ) : Type 0 where
  pub number : result ≡ (set_con_says (span_of 0 word) dir link).number
  pub left : word' ≡ cond (eqb result 0) (with_link (span_of 0 word) dir (number_of link)).«data» word

-- a link is read: the number in the word where the result is 0, and else what was there
pub record ReadsLink (word dir out result out' : ℕ) : Type 0 where
  pub number : result ≡ (con_says (span_of 0 word) dir).number
  pub left : out' ≡ cond (eqb result 0) (link_at (span_of 0 word) dir) out
