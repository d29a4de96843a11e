-- What the inner functions of the filters take and answer, as the definitions have it. No public contract cites this file.
use Rattle.std.specs.Prelude.{◌≡◌, ◌≢◌, true, false, Option, Some, None, List, [], ◌∷◌, ℕ, ◌<◌, ◌≤◌, length, get_or}
use Rattle.field.specs.declared.Span.{Span}
use Rattle.field.specs.Slots.{none}
use Rattle.field.specs.Ledges.{Stand}
use Rattle.field.specs.LedgeTest.{View, view}
use Rattle.field.specs.FilterCode.{roof_at, around, Cursors}
use Rattle.rerecast.specs.declared.lent.Columns.{Columns}
use Rattle.rerecast.specs.declared.ledges.Stand as code-stand
use Rattle.rerecast.specs.declared.ledges.Reach.{Reach}
use Rattle.rerecast.specs.declared.ledges.Sides.{Sides}
use Rattle.rerecast.specs.Lent.{contents_in}

abbrev pub stand_of : code-stand.Stand → Stand
stand_of s = record { top = s.top; roof = s.roof; height = s.agent.height; climb = s.agent.climb }

-- no drop was seen, but these ceilings
abbrev pub reach_of : Reach → View
reach_of r = view false r.low r.high

-- a look comes to this view: nothing is left of it once a drop is seen
abbrev pub Sees : Option Reach → View → Type 0
Sees (Some r) v = reach_of r ≡ v
Sees None v = v.drop ≡ true

-- ---- cursors in the columns beside

-- in the order of the directions
abbrev pub sides_of : Sides → List ℕ
sides_of s = s.west ∷ s.north ∷ s.east ∷ s.south ∷ []

-- They serve an agent on column `i` that needs the height `need` or more, where a row is `w` wide and `at` gives the spans of each column.
abbrev pub Serve : Columns → List ℕ → ℕ → (ℕ → List Span) → ℕ → ℕ → Sides → Type 0
Serve c areas need at w i s = Cursors (contents_in c areas) c.nexts.now need at (around w i) (sides_of s)

-- on some column of some field
abbrev pub AreCursors : Columns → ℕ → Sides → Type 0
AreCursors c need s = (areas : List ℕ) × (at : ℕ → List Span) × (w : ℕ) × (i : ℕ) × Serve c areas need at w i s

-- slot `s`, if there is one, lies under a floor of at least `need`
abbrev pub Under : Columns → ℕ → ℕ → Type 0
Under c need s = s ≢ none → need ≤ roof_at c.floors.now (get_or c.nexts.now s 0)

-- so do all the cursors
abbrev pub AllUnder : Columns → ℕ → Sides → Type 0
AllUnder c need s = Under c need s.west × Under c need s.north × Under c need s.east × Under c need s.south

-- each cursor that has not come to its column's end is at a slot
abbrev pub AllSlots : List ℕ → Sides → Type 0
AllSlots floors s =
    (s.west ≢ none → s.west < length floors)
    × (s.north ≢ none → s.north < length floors)
    × (s.east ≢ none → s.east < length floors)
    × (s.south ≢ none → s.south < length floors)
