-- The store's slots as they are lent, and chains of them (docs/RULES.md, "The store of spans").
use Rattle.std.specs.Prelude.{◌≡◌, cond, List, [], ◌∷◌, ℕ, ◌+◌, ◌<◌, length, get_or, set, eqb}
use Rattle.field.specs.declared.Span.{Span}
use Rattle.field.specs.Spans.{Range, range}

-- the number that stands for no slot
abbrev pub none : ℕ
none = 4294967295

-- all that the slots hold, a list for each part of a span
pub record Contents : Type 0 where
  pub floors : List ℕ
  pub ceilings : List ℕ
  pub areas : List ℕ

abbrev pub contents : List ℕ → List ℕ → List ℕ → Contents
contents floors ceilings areas = record { floors = floors; ceilings = ceilings; areas = areas }

-- the span that a slot holds, and its heights
abbrev pub span_at : Contents → ℕ → Span
span_at k s = record { floor = get_or k.floors s 0; ceiling = get_or k.ceilings s 0; area = get_or k.areas s 0 }

abbrev pub range_at : Contents → ℕ → Range
range_at k s = range (span_at k s)

-- slot `s` holds a span, and all others what they held
abbrev pub put : Contents → ℕ → Span → Contents
put k s span = contents (set k.floors s span.floor) (set k.ceilings s span.ceiling) (set k.areas s span.area)

-- what a slot holds that is fresh or given back
abbrev pub zeros : Span
zeros = record { floor = 0; ceiling = 0; area = 0 }

-- the head of the free chain, what the slots hold, and the slot that follows each
pub record Slots : Type 0 where
  pub free : ℕ
  pub contents : Contents
  pub nexts : List ℕ

abbrev pub slots : ℕ → List ℕ → List ℕ → List ℕ → List ℕ → Slots
slots free floors ceilings areas nexts = record { free = free; contents = contents floors ceilings areas; nexts = nexts }

-- the slot slices are equally long
pub record Sized (t : Slots) : Type 0 where
  pub floors : length t.contents.floors ≡ length t.nexts
  pub ceilings : length t.contents.ceilings ≡ length t.nexts
  pub areas : length t.contents.areas ≡ length t.nexts

-- following `nexts` from `h` meets exactly the slots `ss`, in this order, and arrives at `e`
abbrev pub Run : List ℕ → ℕ → List ℕ → ℕ → Type 0
Run nexts h [] e = h ≡ e
Run nexts h (s ∷ ss) e = (h ≡ s) × (s < length nexts) × Run nexts (get_or nexts s 0) ss e

-- 1 where the two are the same, and else 0
abbrev pub same : ℕ → ℕ → ℕ
same x y = cond (eqb x y) 1 0

-- how often a slot occurs in a chain, and in chains together
abbrev pub times : ℕ → List ℕ → ℕ
times x [] = 0
times x (s ∷ ss) = same x s + times x ss

abbrev pub times_in : ℕ → List (List ℕ) → ℕ
times_in x [] = 0
times_in x (c ∷ cs) = times x c + times_in x cs
