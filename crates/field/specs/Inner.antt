-- What the inner functions of the insertion and of the fresh field promise one another. No public contract cites this file.
use Rattle.std.specs.Prelude.{◌≡◌, Bool, true, false, cond, ℕ, zero, suc, ◌<◌, ◌≤◌, length, get_or, set, ltb, eqb}
use mathlib.Core.List.{List, [], ◌∷◌, foldl}
use Rattle.field.specs.declared.Span.{Span}
use Rattle.field.specs.Spans.{walk_up}
use Rattle.field.specs.Slots.{none, span_at, put, zeros, Slots, Run, times}

-- true where the fact holds, and false where it does not
abbrev pub Says : Bool → Type 0 → Type 0
Says true P = P
Says false P = P → ⊥

-- a whole chain, which ends in `none`
pub record Chain (nexts : List ℕ) (h : ℕ) (ss : List ℕ) : Type 0 where
  pub run : Run nexts h ss none
  pub short : length ss ≤ length nexts
  pub few : length nexts ≤ none

-- no slot occurs twice
abbrev pub Distinct : List ℕ → Type 0
Distinct ss = (x : ℕ) → times x ss ≤ 1

-- the first of a list, and the last, or `d` where there is none
abbrev pub first_or : ℕ → List ℕ → ℕ
first_or d [] = d
first_or d (x ∷ xs) = x

abbrev pub last_or : ℕ → List ℕ → ℕ
last_or d [] = d
last_or d (x ∷ xs) = last_or x xs

-- the slots that are met from `h`, in at most `n` steps: a chain read off its nexts
abbrev pub steps_from : List ℕ → ℕ → ℕ → List ℕ
steps_from nexts zero h = []
steps_from nexts (suc n) h = cond (ltb h (length nexts)) (h ∷ steps_from nexts n (get_or nexts h 0)) []

abbrev pub slots_from : List ℕ → ℕ → List ℕ
slots_from nexts h = steps_from nexts (length nexts) h

-- ---- insertion on the slots

-- a column from the lowest span up: the slots whose ceiling is below `floor`, and those from the first other on
abbrev pub below : List ℕ → ℕ → List ℕ → List ℕ
below ceilings floor [] = []
below ceilings floor (s ∷ ss) = cond (ltb (get_or ceilings s 0) floor) (s ∷ below ceilings floor ss) []

abbrev pub from : List ℕ → ℕ → List ℕ → List ℕ
from ceilings floor [] = []
from ceilings floor (s ∷ ss) = cond (ltb (get_or ceilings s 0) floor) (from ceilings floor ss) (s ∷ ss)

-- no ceiling is below `floor`
abbrev pub Over : List ℕ → ℕ → List ℕ → Type 0
Over ceilings floor ss = (x : ℕ) → 0 < times x ss → floor ≤ get_or ceilings x 0

-- a slot given back goes to the front of the free chain
abbrev pub give_back : Slots → ℕ → Slots
give_back t s = record { free = s; contents = put t.contents s zeros; nexts = set t.nexts s t.free }

-- what merging the chain `ss` leaves: the slots, the widened span, the first slot above it, and how many were merged
pub record Absorbs (threshold : ℕ) (t : Slots) (new : Span) (ss : List ℕ) (t' : Slots) (wide : Span) (next count : ℕ) : Type 0 where
  pub left : t' ≡ foldl give_back t (walk_up (span_at t.contents) threshold new ss).merged
  pub span : wide ≡ (walk_up (span_at t.contents) threshold new ss).span
  pub rest : next ≡ first_or none (walk_up (span_at t.contents) threshold new ss).above
  pub merged : count ≡ length (walk_up (span_at t.contents) threshold new ss).merged

-- the front of the free chain takes a span, with `next` after it
abbrev pub fill : Slots → Span → ℕ → Slots
fill t span next =
    record {
      free = get_or t.nexts t.free 0;
      contents = put t.contents t.free span;
      nexts = set t.nexts t.free next;
    }

-- slot `s` is linked behind slot `before`, or as the column's lowest where that is none
abbrev pub link_heads : List ℕ → ℕ → ℕ → ℕ → List ℕ
link_heads heads i before s = cond (eqb before none) (set heads i s) heads

abbrev pub link_nexts : List ℕ → ℕ → ℕ → List ℕ
link_nexts nexts before s = cond (eqb before none) nexts (set nexts before s)

-- ---- a fresh field

-- what follows slot `k` where `n` slots are chained in their order
abbrev pub after : ℕ → ℕ → ℕ
after n k = cond (eqb (suc k) n) none (suc k)
