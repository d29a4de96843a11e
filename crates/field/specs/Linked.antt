-- What a reader finds in a compact result, in plain words: floors to stand on, steps from a column to those beside it, and the link from a floor.
-- The promises about links (proofs/LinkSays.antt) are stated with these.
use Rattle.std.specs.Prelude.{◌≡◌, ◌⊎◌, true, cond, List, [], ◌∷◌, ◌++◌, ℕ, zero, suc, ◌+◌, ◌*◌, ◌<◌, ◌≤◌, min, max, get_or, take}
use Rattle.compact_span.specs.Word.{height_of, empty_mark, gap_of}
use Rattle.compact_span.specs.Span.{span_of, link_at}
use Rattle.grid.specs.declared.Grid.{Grid}
use Rattle.grid.specs.Grid.{columns}
use Rattle.field.specs.declared.Span.{Span}
use Rattle.field.specs.Walkable.{walkable, roof}
use Rattle.field.specs.Field.{Field, Holds}
use Rattle.field.specs.Store.{Store}
use Rattle.field.specs.Compact.{Result, Outcome, Compacted}

-- ---- floors

-- how many of these spans are walkable
abbrev pub walkables : List Span → ℕ
walkables [] = 0
walkables (s ∷ ss) = cond (walkable s) (suc (walkables ss)) (walkables ss)

-- A floor of a column: a walkable span, with the spans below and above it. Its layer is how many walkable spans are below.
pub record Floor (column : List Span) (layer : ℕ) : Type 0 where
  pub below : List Span
  pub span : Span
  pub above : List Span
  pub in-column : column ≡ below ++ span ∷ above
  pub walked : walkable span ≡ true
  pub number : layer ≡ walkables below

-- an agent on it stands at the span's ceiling
abbrev pub stands_at : {column : List Span} {layer : ℕ} → Floor column layer → ℕ
stands_at a = a.span.ceiling

-- and has room up to what is above, but no more than 255 is counted
abbrev pub room_to : {column : List Span} {layer : ℕ} → Floor column layer → ℕ
room_to a = stands_at a + gap_of (stands_at a) (roof a.above)

-- An agent `tall` high that climbs up to `climb` can step from floor `a` to floor `b`: both share that much room, and neither is too far above the other.
pub record CanStep (tall climb : ℕ) {c c' : List Span} {l l' : ℕ} (a : Floor c l) (b : Floor c' l') : Type 0 where
  pub room : max (stands_at a) (stands_at b) + tall ≤ min (room_to a) (room_to b)
  pub up : stands_at b ≤ stands_at a + climb
  pub down : stands_at a ≤ stands_at b + climb

-- ---- directions

-- One step from x, z leads to x', z'. In direction 0 x falls by one, in 1 z rises, in 2 x rises, in 3 z falls.
abbrev pub Step : ℕ → ℕ → ℕ → ℕ → ℕ → Type 0
Step zero x z x' z' = (x' + 1 ≡ x) × (z' ≡ z)
Step (suc zero) x z x' z' = (x' ≡ x) × (z' ≡ z + 1)
Step (suc (suc zero)) x z x' z' = (x' ≡ x + 1) × (z' ≡ z)
Step (suc (suc (suc zero))) x z x' z' = (x' ≡ x) × (z' + 1 ≡ z)
Step (suc (suc (suc (suc d)))) x z x' z' = ⊥

-- ---- the result

-- the call left a complete result
abbrev pub Done : Outcome → Type 0
Done o = (o.said.number ≡ 0) ⊎ (o.said.number ≡ 12)

-- A call of `into_compact` with outcome `o`, as its contract has it, that left a complete result; the store that it was lent holds the field `f`.
pub record Completed (g : Grid) (tall climb : ℕ) (s : Store) (t : Result) (o : Outcome) (f : Field) : Type 0 where
  pub contract : Compacted g tall climb s t o
  pub done : Done o
  pub holds : Holds (take (columns g) s.heads) s.slots f

-- a floor's place in the rows: the index of its column and its layer
abbrev pub row_of : Result → ℕ → ℕ → ℕ
row_of r column layer = get_or r.indices column 0 + layer

-- the link that is read there, in direction `d`; 63 is the empty mark
abbrev pub link_from : Result → ℕ → ℕ → ℕ → ℕ
link_from r column layer d =
    let n = row_of r column layer in
    link_at (span_of (get_or r.rows.ys n 0) (get_or r.rows.words n 0)) d

-- a floor stands in the rows: within its cell's count, with its y, the height of its open space and its area
pub record Stored (r : Result) (column : ℕ) {c : List Span} {layer : ℕ} (a : Floor c layer) : Type 0 where
  pub counted : layer < get_or r.counts column 0
  pub y : get_or r.rows.ys (row_of r column layer) 0 ≡ stands_at a
  pub height : height_of (get_or r.rows.words (row_of r column layer) 0) ≡ gap_of (stands_at a) (roof a.above)
  pub area : get_or r.rows.areas (row_of r column layer) 0 ≡ a.span.area

-- Layer `l` is where a step in direction `d` leads from floor `a` of the column at x, z: the column there is on the grid, its cell counts more than `l`
-- floors, and an agent can step to the floor at that layer. No link goes above layer 61.
pub record Leads (w h : ℕ) (columns : ℕ → List Span) (counts : List ℕ) (tall climb x z d : ℕ) {layer : ℕ} (a : Floor (columns (x + z * w)) layer) (l : ℕ) : Type 0 where
  pub x' : ℕ
  pub z' : ℕ
  pub step : Step d x z x' z'
  pub on-grid : (x' < w) × (z' < h)
  pub counted : l < get_or counts (x' + z' * w) 0
  pub low : l ≤ 61
  pub floor : Floor (columns (x' + z' * w)) l
  pub can : CanStep tall climb a floor

-- Layer `l` is missed in a result: it is 63 or more, an agent can step to a floor there from a floor of the column beside, and the link there is empty.
pub record Missed (w h : ℕ) (columns : ℕ → List Span) (r : Result) (tall climb l : ℕ) : Type 0 where
  pub x : ℕ
  pub z : ℕ
  pub from-grid : (x < w) × (z < h)
  pub layer : ℕ
  pub floor : Floor (columns (x + z * w)) layer
  pub d : ℕ
  pub x' : ℕ
  pub z' : ℕ
  pub step : Step d x z x' z'
  pub on-grid : (x' < w) × (z' < h)
  pub high : 63 ≤ l
  pub there : Floor (columns (x' + z' * w)) l
  pub can : CanStep tall climb floor there
  pub empty : link_from r (x + z * w) layer d ≡ empty_mark
