-- What the programs lend, as the library's rules see it.
use Rattle.std.specs.Prelude.{◌≡◌, List, ℕ, ◌<◌, ◌≤◌, min, length, get_or, replicate, Option, MatchOption}
use Rattle.field.specs.Slots.{Slots, slots, none}
use Rattle.field.specs.Store.{Store as Lent, store}
use Rattle.field.specs.Meshes.{Mesh as Shape, mesh}
use Rattle.field.specs.Compact.{Result, rows, result_of as result}
use Rattle.runs.specs.declared.Store.{Store}
use Rattle.runs.specs.declared.Chain.{Chain}
use Rattle.runs.specs.declared.Slot.{Slot}
use Rattle.runs.specs.declared.Mesh.{Mesh}
use Rattle.runs.specs.declared.Compact.{Compact}

module _ {COLUMNS SLOTS : ℕ} where
  abbrev pub slots_of : Store COLUMNS SLOTS → Slots
  slots_of s = slots s.free s.floors s.ceilings s.areas s.nexts

  -- the chain runs through the store's slots
  abbrev pub IsOf : Store COLUMNS SLOTS → Chain → Type 0
  IsOf s c = slots s.free c.floors.now c.ceilings.now c.areas.now c.nexts.now ≡ slots_of s

  -- with the marks that a call is lent beside it
  abbrev pub lent : Store COLUMNS SLOTS → List ℕ → Lent
  lent s marks = store s.heads (slots_of s) marks

-- as many slots as each of a chain's slices has an entry for
abbrev pub room : Chain → ℕ
room c = min (length c.floors.now) (min (length c.ceilings.now) (min (length c.areas.now) (length c.nexts.now)))

-- what a chain's slot `i` holds, and the slot that follows it
abbrev pub slot_at : Chain → ℕ → Slot
slot_at c i = record { floor = get_or c.floors.now i 0; ceiling = get_or c.ceilings.now i 0; area = get_or c.areas.now i 0; next = get_or c.nexts.now i 0 }

-- A turn of a chain gives the slot at its head and goes on at that slot's next. Where the head is no slot it gives none, and the head stays.
abbrev pub Follows : Chain → Option Slot → Chain → Type 0
Follows c r d = MatchOption r
    ((room c ≤ c.head) × (d ≡ c))
    (λ s. (c.head < room c) × (s ≡ slot_at c c.head) × (d ≡ record { floors = c.floors; ceilings = c.ceilings; areas = c.areas; nexts = c.nexts; head = s.next }))

abbrev pub mesh_of : Mesh → Shape
mesh_of m = mesh m.vertices.now m.indices.now m.areas.now

abbrev pub result_of : {CELLS YS WORDS AREAS : ℕ} → Compact CELLS YS WORDS AREAS → Result
result_of t = result t.cell_indices t.cell_counts (rows t.ys t.words t.areas)

-- so many slots, of which none is in a chain
abbrev pub unchained : ℕ → Slots
unchained n = slots none (replicate n 0) (replicate n 0) (replicate n 0) (replicate n none)

-- the same number in every entry
abbrev pub all_with : ℕ → ℕ → ℕ → ℕ → ℕ → Result
all_with k cells ys words areas =
    result (replicate cells k) (replicate cells k) (rows (replicate ys k) (replicate words k) (replicate areas k))
