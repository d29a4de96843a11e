-- The field that a store holds, and what an insertion makes of it (docs/RULES.md, "The store of spans").
use Rattle.std.specs.Prelude.{◌≡◌, Bool, true, false, ℕ, zero, suc, ◌+◌, ◌<◌, ◌≤◌, length, get_or, set, replicate}
use mathlib.Core.List.{List, [], ◌∷◌, ◌++◌, map, foldl}
use Rattle.field.specs.declared.Span.{Span}
use Rattle.field.specs.Spans.{Range, Ascends, Walk, walk_up}
use Rattle.field.specs.Slots.{none, Contents, contents, span_at, range_at, put, zeros, Slots, Sized, Run, times, times_in}

-- the slots of each column, from the lowest span up, the free slots from the front on, and what each slot holds
pub record Field : Type 0 where
  pub columns : List (List ℕ)
  pub spare : List ℕ
  pub contents : Contents

-- the slots of a column, its spans, and their heights
abbrev pub column_at : Field → ℕ → List ℕ
column_at f i = get_or f.columns i []

abbrev pub spans : Field → ℕ → List Span
spans f i = map (span_at f.contents) (column_at f i)

abbrev pub ranges : Field → ℕ → List Range
ranges f i = map (range_at f.contents) (column_at f i)

-- how many spans all columns have together
abbrev pub length_in : List (List ℕ) → ℕ
length_in [] = 0
length_in (c ∷ cs) = length c + length_in cs

-- The lent lists are this field's, and it is sound: following the nexts from each head gives the chain that the field lists, every slot is in exactly
-- one chain, and every column ascends. There are few enough slots that `none` is no slot.
pub record Holds (heads : List ℕ) (t : Slots) (f : Field) : Type 0 where
  pub sized : Sized t
  pub few : length t.nexts ≤ none
  pub wide : length f.columns ≡ length heads
  pub contents : f.contents ≡ t.contents
  pub column : (i : ℕ) → i < length heads → Run t.nexts (get_or heads i 0) (column_at f i) none
  pub spare : Run t.nexts t.free f.spare none
  pub once : (s : ℕ) → s < length t.nexts → times_in s f.columns + times s f.spare ≡ 1
  pub ascends : (i : ℕ) → i < length heads → Ascends 0 (ranges f i)

-- the lent lists hold a sound field
abbrev pub Held : List ℕ → Slots → Type 0
Held heads t = (f : Field) × Holds heads t f

-- ---- a fresh field

-- the numbers from `k` on, `n` of them
abbrev pub count_from : ℕ → ℕ → List ℕ
count_from k zero = []
count_from k (suc n) = k ∷ count_from (suc k) n

-- `w` empty columns, and `n` slots, free in the order 0, 1, 2 and on, which hold zeros
abbrev pub fresh_field : ℕ → ℕ → Field
fresh_field w n =
    record {
      columns = replicate w [];
      spare = count_from 0 n;
      contents = contents (replicate n 0) (replicate n 0) (replicate n 0);
    }

-- ---- insertion

-- a slot given back goes to the front of the free slots, and holds zeros
abbrev pub release : Field → ℕ → Field
release f s = record { columns = f.columns; spare = s ∷ f.spare; contents = put f.contents s zeros }

-- What an insertion answers and leaves: whether the span was accepted, the slot that it landed in, how many spans it merged, and the field.
pub record Inserted : Type 0 where
  pub accepted : Bool
  pub slot : ℕ
  pub merged : ℕ
  pub field : Field

-- Last, the new span takes the front of the free slots, between the spans passed and those above. `g` is the field once the merged slots are given
-- back. With no free slot the span is refused, and the field is left as it was.
abbrev pub settle : Field → ℕ → Walk ℕ → Field → List ℕ → Inserted
settle f i w g [] = record { accepted = false; slot = none; merged = 0; field = f }
settle f i w g (s ∷ ss) =
    record {
      accepted = true;
      slot = s;
      merged = length w.merged;
      field =
          record {
            columns = set f.columns i (w.passed ++ s ∷ w.above);
            spare = ss;
            contents = put g.contents s w.span;
          };
    }

-- a span goes into column `i`: the walk up the column, the merged slots given back one after another, and the new span's slot
abbrev pub insert : ℕ → Field → ℕ → Span → Inserted
insert threshold f i new =
    let w = walk_up (span_at f.contents) threshold new (column_at f i) in
    let g = foldl release f w.merged in
    settle f i w g g.spare
