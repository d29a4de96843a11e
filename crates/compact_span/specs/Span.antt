-- A compact span as a whole: where it starts and its data word, and what a change of one part of it leaves.
use Rattle.std.specs.Prelude.{ℕ, get_or, set}
use Rattle.compact_span.specs.declared.CompactSpan.{CompactSpan}
use Rattle.compact_span.specs.Word.{word, links, height_of, no_links}

-- a span from its two fields
abbrev pub span_of : ℕ → ℕ → CompactSpan
span_of y n = record { y = y; «data» = n }

-- a span with no links
unfoldable pub fresh_span : ℕ → ℕ → CompactSpan
fresh_span y h = span_of y (word h no_links)

-- the link of one direction, as a number
unfoldable pub link_at : CompactSpan → ℕ → ℕ
link_at s d = get_or (links s.«data») d 0

-- the link of one direction changed, and the rest kept
unfoldable pub with_link : CompactSpan → ℕ → ℕ → CompactSpan
with_link s d l = span_of s.y (word (height_of s.«data») (set (links s.«data») d l))

-- the height changed, and the rest kept
unfoldable pub with_height : CompactSpan → ℕ → CompactSpan
with_height s h = span_of s.y (word h (links s.«data»))
