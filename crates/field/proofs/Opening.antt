-- The open spaces of a column, the index of a cell, and the columns of a field as the lent lists have them.
use mathlib.Core.Path.{◌≡◌, refl, sym, ap, ◌∙◌}
use mathlib.Core.Bool.{cond}
use mathlib.Core.List.{List, [], ◌∷◌, map, flatten}
use Prim.Native.Nat.{ℕ, zero, suc, ◌+◌, ◌<◌, ◌≤◌}
use native.Mathlib.Omega.{arith}
use native.Mathlib.Nat.{not-suc-le-zero, le_of_suc-le-suc}
use borrow.Author.Tests.{ne_eqb}
use lib.ListN.{length, get_or, take, drop, length-map, get_or-map}
use lib.Seq.{drop-cons, drop-length}
use lib.Dec.{eqb}
use Rattle.field.specs.declared.Span.{Span}
use Rattle.field.specs.Spans.{range, Ascends}
use Rattle.field.specs.Slots.{Slots, span_at}
use Rattle.field.specs.Field.{Field, column_at, Holds}
use Rattle.field.specs.Open.{Open, space, open_above, opens, columns_of, cells, index_of, indices}
use Rattle.field.proofs.Basics.{by-test}
use Rattle.field.proofs.Contents.{ranges-spans}
use Rattle.field.proofs.Lists.{flatten-cons}

-- no open space: what stands where there is none
abbrev pub nowhere : Open
nowhere = space 0 0 0

-- a walkable span has one open space, and any other none
pub above-length : (s : Span) (top : ℕ) → length (open_above s top) ≡ cond (eqb s.area 0) 0 1
above-length s top = by-test (eqb s.area 0) (λ t. rw t) (λ t. rw t)

-- ---- the index of a cell: what follows from the rule, whatever it says of a column with no open space

pub index-some : (before : ℕ) (column : List Span) → 0 < length (opens column) → index_of before column ≡ before
index-some before column h = rw (ne_eqb (length (opens column)) 0 (λ e. omega arith))

pub index-none : (before : ℕ) (column : List Span) → index_of before column ≤ before
index-none before column = by-test (eqb (length (opens column)) 0) (λ t. rw t (omega arith)) (λ t. rw t (omega arith))

pub indices-length : (k : ℕ) (columns : List (List Span)) → length (indices k columns) ≡ length columns
indices-length k [] = refl
indices-length k (c ∷ cs) = ap suc (indices-length (k + length (opens c)) cs)

-- how many open spaces come before column i
abbrev pub earlier : List (List Span) → ℕ → ℕ
earlier columns i = length (flatten (take i (cells columns)))

earlier-next : (k : ℕ) (c : List Span) (cs : List (List Span)) (i : ℕ) → k + length (opens c) + earlier cs i ≡ k + earlier (c ∷ cs) (suc i)
earlier-next k c cs i = omega (arith, flatten-cons (opens c) (take i (cells cs)))

earlier-zero : (k : ℕ) (columns : List (List Span)) → k + earlier columns 0 ≡ k
unfolding flatten
earlier-zero k columns = omega arith

pub index_at : (k : ℕ) (columns : List (List Span)) (i : ℕ) → i < length columns → 0 < length (opens (get_or columns i [])) → get_or (indices k columns) i 0 ≡ k + earlier columns i
index_at k [] i h m = absurd (not-suc-le-zero h)
index_at k (c ∷ cs) zero h m = index-some k c m ∙ sym (earlier-zero k (c ∷ cs))
index_at k (c ∷ cs) (suc i) h m = index_at (k + length (opens c)) cs i (le_of_suc-le-suc h) m ∙ earlier-next k c cs i

pub index-under : (k : ℕ) (columns : List (List Span)) (i : ℕ) → i < length columns → get_or (indices k columns) i 0 ≤ k + earlier columns i
index-under k [] i h = absurd (not-suc-le-zero h)
index-under k (c ∷ cs) zero h = omega (arith, index-none k c, earlier-zero k (c ∷ cs))
index-under k (c ∷ cs) (suc i) h = omega (arith, index-under (k + length (opens c)) cs i (le_of_suc-le-suc h), earlier-next k c cs i)

-- ---- the columns of a field

pub cell_at : (columns : List (List Span)) (i : ℕ) → get_or (cells columns) i [] ≡ opens (get_or columns i [])
cell_at columns i = get_or-map opens columns i []

module _ {heads : List ℕ} {t : Slots} {f : Field} (H : Holds heads t f) where
  pub columns-wide : length (columns_of f) ≡ length heads
  columns-wide = length-map f.columns (map (span_at f.contents)) ∙ H.wide

  pub cells_wide : length (cells (columns_of f)) ≡ length heads
  cells_wide = length-map (columns_of f) opens ∙ columns-wide

  -- a column, and its cell, as the slots have it
  pub column-spans : (i : ℕ) → get_or (columns_of f) i [] ≡ map (span_at t.contents) (column_at f i)
  column-spans i = get_or-map (map (span_at f.contents)) f.columns i [] ∙ rw H.contents

  pub cell-spans : (i : ℕ) → get_or (cells (columns_of f)) i [] ≡ opens (map (span_at t.contents) (column_at f i))
  cell-spans i = cell_at (columns_of f) i ∙ ap opens (column-spans i)

  -- and it ascends
  pub column-ascends : (i : ℕ) → i < length heads → Ascends 0 (map range (get_or (columns_of f) i []))
  column-ascends i l = rw (get_or-map (map (span_at f.contents)) f.columns i [], ranges-spans f.contents (column_at f i)) (H.ascends i l)

  pub columns-cons : (i : ℕ) → i < length heads → drop i (columns_of f) ≡ get_or (columns_of f) i [] ∷ drop (suc i) (columns_of f)
  columns-cons i l = drop-cons (columns_of f) i [] (omega (arith, columns-wide))

  pub columns-end : (i : ℕ) → i ≡ length heads → drop i (columns_of f) ≡ []
  columns-end i e = rw (e, ← columns-wide) (drop-length (columns_of f))
