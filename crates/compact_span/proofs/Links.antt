-- The laws of links, stated once over the direction: what is put is read, other directions are kept, the later of two links stays,
-- two directions are set in either order, setting what is there changes nothing, and the height never moves.
use mathlib.Core.Path.{◌≡◌, refl, sym, ap, ap₂, ◌∙◌}
use mathlib.Core.List.{List}
use mathlib.Core.Logic.{◌≢◌}
use Prim.Native.Nat.{ℕ, ◌<◌}
use lib.ListN.{get_or, set, length-set}
use lib.Seq.{get_or-set_same, get_or-set_other, set-get_or, set-set, set_comm}
use Rattle.compact_span.specs.declared.CompactSpan.{CompactSpan}
use Rattle.compact_span.specs.Word.{word, links, height_of}
use Rattle.compact_span.specs.Span.{span_of, link_at, with_link, with_height}
use Rattle.compact_span.proofs.Base64.{Digits, links-of-word, height-of-word, digits-small, set-small, word_of}

-- every link of a span is below 64
pub link-small : (s : CompactSpan) (d : ℕ) → link_at s d < 64
unfolding link_at
link-small s d = digits-small 4 s.«data» d

-- a span at the word of a height and links
abbrev packed : CompactSpan → ℕ → List ℕ → CompactSpan
packed s h ls = span_of s.y (word h ls)

module _ (s : CompactSpan) (d v : ℕ) (hv : v < 64) where
  set-digits : Digits (set (links s.«data») d v)
  set-digits = set-small (links s.«data») (digits-small 4 s.«data») d v hv

  -- after a change the links are the old ones with that one changed
  pub links-after : links (with_link s d v).«data» ≡ set (links s.«data») d v
  unfolding with_link
  links-after = links-of-word (height_of s.«data») (set (links s.«data») d v) (length-set (links s.«data») d v) set-digits

  -- the height never moves
  pub height-after : height_of (with_link s d v).«data» ≡ height_of s.«data»
  unfolding with_link
  height-after = height-of-word (height_of s.«data») (set (links s.«data») d v) (length-set (links s.«data») d v) set-digits

  -- what was put is read
  pub read_same : d < 4 → link_at (with_link s d v) d ≡ v
  unfolding link_at
  read_same h = ap (λ (ls : List ℕ). get_or ls d 0) links-after ∙ get_or-set_same (links s.«data») d v 0 h

  -- another direction reads as before
  pub read-other : (e : ℕ) → e ≢ d → link_at (with_link s d v) e ≡ link_at s e
  unfolding link_at
  read-other e ne = ap (λ (ls : List ℕ). get_or ls e 0) links-after ∙ get_or-set_other (links s.«data») d e v 0 ne

  -- two changes, as the list of links has them
  twice : (e w : ℕ) → with_link (with_link s d v) e w ≡ packed s (height_of s.«data») (set (set (links s.«data») d v) e w)
  unfolding with_link
  twice e w = ap₂ (λ (h : ℕ) (ls : List ℕ). packed s h (set ls e w)) height-after links-after

  -- of two links put at one direction the later stays
  pub later-stays : (w : ℕ) → with_link (with_link s d v) d w ≡ with_link s d w
  unfolding with_link
  later-stays w = twice d w ∙ ap (packed s (height_of s.«data»)) (set-set (links s.«data») d v w)

-- two directions are set in either order
pub either_order : (s : CompactSpan) (d e v w : ℕ) → v < 64 → w < 64 → d ≢ e → with_link (with_link s d v) e w ≡ with_link (with_link s e w) d v
either_order s d e v w hv hw ne =
    twice s d v hv e w
    ∙ ap (packed s (height_of s.«data»)) (set_comm (links s.«data») d e v w ne)
    ∙ sym (twice s e w hw d v)

-- setting what is there changes nothing
pub same-stays : (s : CompactSpan) (d : ℕ) → with_link s d (link_at s d) ≡ s
unfolding with_link link_at
same-stays s d =
    ap (packed s (height_of s.«data»)) (set-get_or (links s.«data») d 0)
    ∙ ap (span_of s.y) (word_of s.«data»)

-- a change of the height is read, and keeps every link
pub height-set : (s : CompactSpan) (h : ℕ) → height_of (with_height s h).«data» ≡ h
unfolding with_height
height-set s h = height-of-word h (links s.«data») refl (digits-small 4 s.«data»)

pub links-kept : (s : CompactSpan) (h d : ℕ) → link_at (with_height s h) d ≡ link_at s d
unfolding with_height link_at
links-kept s h d = ap (λ (ls : List ℕ). get_or ls d 0) (links-of-word h (links s.«data») refl (digits-small 4 s.«data»))
