-- What the inner functions of the test for soundness promise one another (reply 14). No public contract cites this file.
use Rattle.std.specs.Prelude.{◌≡◌, List, [], ◌∷◌, map, ℕ, ◌+◌, ◌<◌, ◌≤◌, length, get_or, set}
use Rattle.field.specs.Spans.{Ascends}
use Rattle.field.specs.Slots.{none, contents, range_at, Run, same, times, times_in}

-- each mark is 0 or 1
abbrev pub Flags : List ℕ → Type 0
Flags marks = (x : ℕ) → get_or marks x 0 ≤ 1

-- how many slots are not marked
abbrev pub unmarked : List ℕ → ℕ
unmarked [] = 0
unmarked (m ∷ ms) = same m 0 + unmarked ms

-- a chain from `h` whose slots are not marked and not twice in it
pub record Free (nexts marks : List ℕ) (h : ℕ) (ss : List ℕ) : Type 0 where
  pub run : Run nexts h ss none
  pub once : (x : ℕ) → get_or marks x 0 + times x ss ≤ 1

-- The slots of such a chain are marked besides those before, `n` in all, and the chain is as `Fair` asks.
pub record Marked (nexts marks : List ℕ) (h : ℕ) (Fair : List ℕ → Type 0) (marks' : List ℕ) (n : ℕ) : Type 0 where
  pub ss : List ℕ
  pub run : Run nexts h ss none
  pub fair : Fair ss
  pub adds : (x : ℕ) → get_or marks' x 0 ≡ get_or marks x 0 + times x ss
  pub flags : Flags marks'
  pub count : n + unmarked marks' ≡ length nexts

-- there is no such chain
abbrev pub Broken : List ℕ → List ℕ → ℕ → (List ℕ → Type 0) → Type 0
Broken nexts marks h Fair = (ss : List ℕ) → Free nexts marks h ss → Fair ss → ⊥

-- a column's spans ascend, none of them below `b`: soundness asks nothing of areas
abbrev pub Climbs : List ℕ → List ℕ → ℕ → List ℕ → Type 0
Climbs floors ceilings b ss = Ascends b (map (range_at (contents floors ceilings [])) ss)

-- the free chain may hold anything
abbrev pub Any : List ℕ → Type 0
Any ss = Unit {0}

-- The slots from `from` on and before `to` are marked in turn, which leaves the marks `marks'`: each was unmarked, and its next is the slot after it.
pub data InTurn (nexts marks : List ℕ) (from : ℕ) : ℕ → List ℕ → Type 0 where
  start : InTurn nexts marks from from marks
  then : {to : ℕ} {marks' : List ℕ} → InTurn nexts marks from to marks' → to < length nexts → get_or nexts to 0 ≡ to + 1 → get_or marks' to 0 ≡ 0 → InTurn nexts marks from (to + 1) (set marks' to 1)

-- columns that are chains, ascend, and have no slot twice
pub record Columns (heads floors ceilings nexts : List ℕ) (n : ℕ) (cs : List (List ℕ)) : Type 0 where
  pub size : length cs ≡ n
  pub column : (i : ℕ) → i < n → Run nexts (get_or heads i 0) (get_or cs i []) none
  pub ascends : (i : ℕ) → i < n → Climbs floors ceilings 0 (get_or cs i [])
  pub once : (x : ℕ) → times_in x cs ≤ 1

-- the slots of such columns are marked, `n` of them
pub record MarkedAll (heads floors ceilings nexts marks' : List ℕ) (n : ℕ) : Type 0 where
  pub cs : List (List ℕ)
  pub columns : Columns heads floors ceilings nexts (length heads) cs
  pub marks : (x : ℕ) → get_or marks' x 0 ≡ times_in x cs
  pub count : n + unmarked marks' ≡ length nexts

-- there are no such columns
abbrev pub BrokenAll : List ℕ → List ℕ → List ℕ → List ℕ → Type 0
BrokenAll heads floors ceilings nexts = (cs : List (List ℕ)) → Columns heads floors ceilings nexts (length heads) cs → ⊥
