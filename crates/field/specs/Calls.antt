-- What each public call answers and leaves.
use Rattle.std.specs.Prelude.{◌≡◌, true, List, ℕ, ◌+◌, ◌*◌, ◌<◌, ◌≤◌, length, take, drop}
use Rattle.replies.specs.Said.{Said, just, Asks}
use Rattle.grid.specs.declared.Grid.{Grid}
use Rattle.grid.specs.Grid.{width, height, columns, grid_says}
use Rattle.field.specs.declared.Span.{Span}
use Rattle.field.specs.Slots.{Slots}
use Rattle.field.specs.Field.{Field, Holds, fresh_field, insert}
use Rattle.field.specs.Store.{Store, Fits, Fitting, cleared, Outcome, left, Admits, Becomes}

-- ---- a fresh field, for which no marks are lent

pub record Made : Type 0 where
  pub said : Said
  pub heads : List ℕ
  pub slots : Slots

abbrev pub made : Said → List ℕ → Slots → Made
made said heads t = record { said = said; heads = heads; slots = t }

-- the first `n` heads and all slots hold a fresh field, and the heads past them are as they were
pub record IsFresh (n : ℕ) (heads : List ℕ) (t : Slots) (o : Made) : Type 0 where
  pub says : o.said ≡ just 0
  pub holds : Holds (take n o.heads) o.slots (fresh_field n (length t.nexts))
  pub beyond : drop n o.heads ≡ drop n heads

-- 1, 2, 3, then 4
abbrev pub Freshened : Grid → List ℕ → Slots → Made → Type 0
Freshened g heads t =
    Asks ((grid_says g).number ≡ 0) (made (grid_says g) heads t)
    (Asks (Fits (columns g) heads t) (made (just 4) heads t)
    (IsFresh (columns g) heads t))

-- ---- one span

-- the field that the store holds takes the span into column `i`, or finds no slot for it (5)
abbrev pub Inserts : ℕ → ℕ → Span → ℕ → Store → Outcome → Type 0
Inserts n i new threshold s o =
    (f : Field)
    × Holds (take n s.heads) s.slots f
    × Asks ((insert threshold f i new).accepted ≡ true) (left (just 5) (cleared s)) (Becomes n s (insert threshold f i new).field) o

-- where x and z are inside a grid of w × h cells (8), and the floor is not above the ceiling (9)
abbrev pub Offers : ℕ → ℕ → ℕ → ℕ → Span → ℕ → Store → Outcome → Type 0
Offers w h x z new threshold s =
    Asks ((x < w) × (z < h)) (left (just 8) (cleared s))
    (Asks (new.floor ≤ new.ceiling) (left (just 9) (cleared s))
    (Inserts (w * h) (x + z * w) new threshold s))

-- 1, 2, 3, 4, 14, then 8, 9 and 5
abbrev pub Added : Grid → ℕ → ℕ → Span → ℕ → Store → Outcome → Type 0
Added g x z new threshold s = Admits left g (Fitting (columns g) s) s (Offers (width g) (height g) x z new threshold s)
