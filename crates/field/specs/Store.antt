-- All that a call is lent, the tests that every call makes first, and what a call answers and leaves (docs/RULES.md, "Numbered replies").
use Rattle.std.specs.Prelude.{◌≡◌, List, ℕ, ◌<◌, ◌≤◌, length, take, drop, replicate}
use Rattle.replies.specs.Said.{Said, just, Asks}
use Rattle.grid.specs.declared.Grid.{Grid}
use Rattle.grid.specs.Grid.{columns, grid_says}
use Rattle.field.specs.Slots.{Slots}
use Rattle.field.specs.Field.{Field, Holds, Held}

-- the column heads, the slots with the head of the free chain, and the marks
pub record Store : Type 0 where
  pub heads : List ℕ
  pub slots : Slots
  pub marks : List ℕ

abbrev pub store : List ℕ → Slots → List ℕ → Store
store heads t marks = record { heads = heads; slots = t; marks = marks }

-- Lengths that fit a grid of `n` columns: a head for each, and slot slices equally long and within their limits.
pub record Fit (n heads floors ceilings areas nexts : ℕ) : Type 0 where
  pub enough : n ≤ heads
  pub floors-fit : floors ≡ nexts
  pub ceilings-fit : ceilings ≡ nexts
  pub areas-fit : areas ≡ nexts
  pub some : 0 < nexts
  pub few : nexts ≤ 1048576

abbrev pub Fits : ℕ → List ℕ → Slots → Type 0
Fits n heads t =
    Fit n (length heads) (length t.contents.floors) (length t.contents.ceilings) (length t.contents.areas) (length t.nexts)

-- what reply 4 asks of the store: that, and a mark for each slot
pub record Fitting (n : ℕ) (s : Store) : Type 0 where
  pub fits : Fits n s.heads s.slots
  pub marks-fit : length s.marks ≡ length s.slots.nexts

-- what reply 14 asks: the first `n` heads and the slots hold a sound field. Heads past these are no part of it.
abbrev pub Sound : ℕ → Store → Type 0
Sound n s = Held (take n s.heads) s.slots

-- once the test for soundness has run, the marks are 0, and all else is as it was
abbrev pub cleared : Store → Store
cleared s = store s.heads s.slots (replicate (length s.slots.nexts) 0)

-- what a call answers and leaves
pub record Outcome : Type 0 where
  pub said : Said
  pub store : Store

abbrev pub left : Said → Store → Outcome
left said s = record { said = said; store = s }

-- The tests that every call on a field makes first: the grid's (1, 2, 3), the slices' (4), and the field's (14). `Fitted` is what the call asks of all
-- its slices, and `ends said s` the outcome that says `said`, leaves the store `s`, and all else that is lent as it was.
abbrev pub Admits : {O : Type 0} → (Said → Store → O) → Grid → Type 0 → Store → (O → Type 0) → O → Type 0
Admits ends g Fitted s next =
    Asks ((grid_says g).number ≡ 0) (ends (grid_says g) s)
    (Asks Fitted (ends (just 4) s)
    (Asks (Sound (columns g) s) (ends (just 14) (cleared s)) next))

-- The call says `said`, and its store now holds the field `f`. The heads past the `n` columns are as they were, and the marks are 0.
pub record Ends (n : ℕ) (s : Store) (said : Said) (f : Field) (o : Outcome) : Type 0 where
  pub says : o.said ≡ said
  pub holds : Holds (take n o.store.heads) o.store.slots f
  pub beyond : drop n o.store.heads ≡ drop n s.heads
  pub marks : o.store.marks ≡ replicate (length s.slots.nexts) 0

-- it is accepted
abbrev pub Becomes : ℕ → Store → Field → Outcome → Type 0
Becomes n s = Ends n s (just 0)
