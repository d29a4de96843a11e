-- What the inner functions of `into_compact` need of the crates below.
use mathlib.Core.Path.{◌≡◌, ap, ◌∙◌}
use mathlib.Core.Bool.{Bool}
use mathlib.Core.List.{List, [], ◌∷◌, map, foldl}
use Prim.Native.Nat.{ℕ, max, ◌+◌, ◌-◌, ◌≤◌, ◌<◌}
use native.Mathlib.Nat.{add-zero}
use native.Mathlib.Omega.{arith}
use borrow.Author.Tests.{lt-ltb}
use lib.ListN.{length, get_or, set, drop}
use borrow.Rule.Slice.PartMut.{mid_of, put_mid, mid_len, set_mid_at}
use Rattle.compact_cell.specs.Cell.{count_after, raised_counts}
use lib.Seq.{length-sets, get_or-take, get_or-drop}
use Rattle.compact_span.specs.Word.{word, held}
use Rattle.compact_span.proofs.Base64.{word_held}
use Rattle.field.specs.Open.{Open, space}
use Rattle.field.specs.Links.{passes, link, missed, word_of, missed_of}
use Rattle.field.specs.Compact.{Result}
use Rattle.field.specs.Rowing.{shown, raised_by}
use Rattle.field.proofs.Sides.{link-small}
use Rattle.rerecast.specs.declared.sides.Side.{Side}
use Rattle.rerecast.specs.declared.links.Found.{Found}
use Rattle.rerecast.specs.declared.lent.Compact.{Compact}
use Rattle.rerecast.specs.Lent.{SameCompact}
use Rattle.rerecast.specs.Compacting.{layers_of, linked, Left, AllLeft}

-- raising a count that has room adds one to it: here in the part of the counts that begins with it
pub raised-in-part : (x : ℕ) (counts : List ℕ) (i : ℕ) {part : List ℕ} → i < length counts → get_or counts i 0 + 1 ≤ 255 → part ≡ raised_counts (x ∷ []) (mid_of i (length counts - i) counts) 0 → put_mid i (length counts - i) counts part ≡ raised_by counts i 1
raised-in-part x counts i {part} there room e =
    let k : ℕ = length counts - i in
    let mid : List ℕ = mid_of i k counts in
    let some : 0 < length mid = omega (arith, there, mid_len i (length counts) counts (omega arith)) in
    let first : get_or mid 0 0 ≡ get_or counts i 0 = get_or-take k (drop i counts) 0 0 (omega (arith, there)) ∙ get_or-drop i counts 0 0 ∙ rw (add-zero i) in
    let one : count_after (get_or mid 0 0) ≡ get_or counts i 0 + 1 = rw first (omega (arith, room)) in
    let raised : part ≡ set mid 0 (get_or counts i 0 + 1) = e ∙ rw (lt-ltb 0 (length mid) some) (ap (set mid 0) one) in
    rw raised (set_mid_at i k 0 counts (get_or counts i 0 + 1) some ∙ rw (add-zero i))

-- the words that `with_links` makes are the rule's: a link fits six bits
pub bound-word : (pass : Open → Bool) (h : ℕ) (na nb nc nd : List Open) {a b c d w : ℕ} → a ≡ link pass na → b ≡ link pass nb → c ≡ link pass nc → d ≡ link pass nd → w ≡ word h (held a ∷ held b ∷ held c ∷ held d ∷ []) → w ≡ word h (map (link pass) (na ∷ nb ∷ nc ∷ nd ∷ []))
bound-word pass h na nb nc nd {a} {b} {c} {d} {w} ea eb ec ed e =
    let f : w ≡ word h (held (link pass na) ∷ held (link pass nb) ∷ held (link pass nc) ∷ held (link pass nd) ∷ []) = rw (ea, eb, ec, ed) at e in
    f ∙ word_held h (link pass na) (link pass nb) (link pass nc) (link pass nd) (link-small pass na) (link-small pass nb) (link-small pass nc) (link-small pass nd)

zero-max : (n : ℕ) → n ≡ max 0 n
zero-max n = omega arith

pub bound-missed : (pass : Open → Bool) (na nb nc nd : List Open) {a b c d m : ℕ} → a ≡ missed pass na → b ≡ missed pass nb → c ≡ missed pass nc → d ≡ missed pass nd → m ≡ max (max (max a b) c) d → m ≡ foldl max 0 (map (missed pass) (na ∷ nb ∷ nc ∷ nd ∷ []))
bound-missed pass na nb nc nd {a} {b} {c} {d} {m} ea eb ec ed e =
    let f : m ≡ max (max (max (missed pass na) (missed pass nb)) (missed pass nc)) (missed pass nd) = rw (ea, eb, ec, ed) at e in
    f ∙ ap (λ (n : ℕ). max (max (max n (missed pass nb)) (missed pass nc)) (missed pass nd)) (zero-max (missed pass na))

-- ---- four looks, one to each cell beside, bind an open space

-- what a look finds in a cell
abbrev pub Finds : (Open → Bool) → ℕ → ℕ → ℕ → List ℕ → List ℕ → Side → Found → Type 0
Finds pass tall climb y ys ws s f =
    (f.layer ≡ link pass (shown ys ws s.first s.count)) × (f.missed ≡ missed pass (shown ys ws s.first s.count)) × Left tall climb y ys ws s f.from

-- what stands for a cell past the last
abbrev pub nothing : Side
nothing = record { first = 0; count = 0 }

-- to which open spaces whoever stands there passes
abbrev pub from_post : ℕ → ℕ → ℕ → ℕ → Open → Bool
from_post tall climb y height = passes tall climb (space y height 0)

module _ (tall climb y height : ℕ) (ys ws : List ℕ) (a b c d : Found) {w m : ℕ} where
  pub bound : (sides : List Side) → length sides ≡ 4
      → Finds (from_post tall climb y height) tall climb y ys ws (get_or sides 0 nothing) a
      → Finds (from_post tall climb y height) tall climb y ys ws (get_or sides 1 nothing) b
      → Finds (from_post tall climb y height) tall climb y ys ws (get_or sides 2 nothing) c
      → Finds (from_post tall climb y height) tall climb y ys ws (get_or sides 3 nothing) d
      → w ≡ word height (map held (a.layer ∷ b.layer ∷ c.layer ∷ d.layer ∷ [])) → m ≡ max (max (max a.missed b.missed) c.missed) d.missed
      → (w ≡ word_of (passes tall climb) (layers_of ys ws sides) (space y height 0))
      × (m ≡ missed_of (passes tall climb) (layers_of ys ws sides) (space y height 0))
      × AllLeft tall climb y ys ws sides (a.from ∷ b.from ∷ c.from ∷ d.from ∷ [])
  bound (s0 ∷ s1 ∷ s2 ∷ s3 ∷ []) e A B C D ew em =
      let at : Side → List Open = λ s. shown ys ws s.first s.count in (
        bound-word (from_post tall climb y height) height (at s0) (at s1) (at s2) (at s3) A.0 B.0 C.0 D.0 ew,
        bound-missed (from_post tall climb y height) (at s0) (at s1) (at s2) (at s3) A.1 B.1 C.1 D.1 em,
        (A.2, (B.2, (C.2, (D.2, tt)))),
      )
  bound [] e A B C D ew em = absurd (omega (arith, e))
  bound (s0 ∷ []) e A B C D ew em = absurd (omega (arith, e))
  bound (s0 ∷ s1 ∷ []) e A B C D ew em = absurd (omega (arith, e))
  bound (s0 ∷ s1 ∷ s2 ∷ []) e A B C D ew em = absurd (omega (arith, e))
  bound (s0 ∷ s1 ∷ s2 ∷ s3 ∷ s4 ∷ ss) e A B C D ew em = absurd (omega (arith, e))

-- ---- a result of which only words change

pub record OnlyWords (t t' : Result) : Type 0 where
  pub indices : t'.indices ≡ t.indices
  pub counts : t'.counts ≡ t.counts
  pub ys : t'.rows.ys ≡ t.rows.ys
  pub areas : t'.rows.areas ≡ t.rows.areas
  pub words : length t'.rows.words ≡ length t.rows.words

pub only-linked : (t v t' : Result) (k : ℕ) (ws : List ℕ) → OnlyWords t v → t' ≡ linked v k ws → OnlyWords t t'
only-linked t v t' k ws o e =
    record {
      indices = ap (λ (r : Result). r.indices) e ∙ o.indices;
      counts = ap (λ (r : Result). r.counts) e ∙ o.counts;
      ys = ap (λ (r : Result). r.rows.ys) e ∙ o.ys;
      areas = ap (λ (r : Result). r.rows.areas) e ∙ o.areas;
      words = ap (λ (r : Result). length r.rows.words) e ∙ length-sets v.rows.words k ws ∙ o.words;
    }

-- ---- the same slices are lent on

pub same-compact : (a b c : Compact) → SameCompact a b → SameCompact b c → SameCompact a c
same-compact a b c p q = (q.0 ∙ p.0, q.1 ∙ p.1, q.2 ∙ p.2, q.3 ∙ p.3, q.4 ∙ p.4)
