-- What the inner functions' answers mean in `into_compact`. No public contract cites this file.
use Rattle.std.specs.Prelude.{◌≡◌, true, false, cond, ℕ, ◌+◌, ◌*◌, ◌<◌, ◌≤◌, length, get_or, drop, eqb, Option, Some, None, IfSome}
use mathlib.Core.List.{List, [], ◌∷◌, map, flatten}
use Rattle.std.proofs.lemmas.List.Edits.{sets}
use Rattle.field.specs.Slots.{none, Contents}
use Rattle.field.specs.Beside.{beside_in}
use Rattle.field.specs.Open.{Open}
use Rattle.field.specs.Compact.{Few, Result, result_of, rows}
use Rattle.field.specs.Links.{passes}
use Rattle.field.specs.Rowing.{laid, raised_by, Laid, shown_at, shown, Climbs, Shown, AllBehind, NonePasses}
use Rattle.rerecast.specs.declared.sides.Side.{Side}
use Rattle.rerecast.specs.declared.links.Look.{Look}

-- the open spaces are counted, or some column has too many
abbrev pub Tallies : Option ℕ → List (List Open) → Type 0
Tallies None cs = Few cs → ⊥
Tallies (Some n) cs = Few cs × (n ≡ length (flatten cs))

-- the open spaces of one span stored at place `k`: the place after them, and the count of cell `i` raised by as many
pub record Placed (t : Result) (i k : ℕ) (os : List Open) (end : ℕ) (t' : Result) : Type 0 where
  pub place : end ≡ k + length os
  pub indices : t'.indices ≡ t.indices
  pub counts : t'.counts ≡ raised_by t.counts i (length os)
  pub rows : t'.rows ≡ laid t.rows k os

-- those of a column, whose cell's index is not yet set
pub record LaidIn (k : Contents) (ss : List ℕ) (t : Result) (start i : ℕ) (t' : Result) (end : ℕ) : Type 0 where
  pub indices : t'.indices ≡ t.indices
  pub laid : Laid k ss t.rows start t.counts i t'.rows end t'.counts

-- the cell with number `k`, and an empty one where that is none
abbrev pub side_of : List ℕ → List ℕ → ℕ → Side
side_of ix sz k = record { first = cond (eqb k none) 0 (get_or ix k 0); count = cond (eqb k none) 0 (get_or sz k 0) }

-- the number that the definitions have for a column that may be off the grid
abbrev pub place_of : Option ℕ → ℕ
place_of (Some k) = k
place_of None = none

-- the column beside x, z in direction d
abbrev pub Beside : Option ℕ → ℕ → ℕ → ℕ → ℕ → ℕ → Type 0
Beside r w h x z d = (place_of r ≡ beside_in w h d x z) × IfSome r (λ k. k < w * h)

-- their layers, as the rows show them
abbrev pub layers_of : List ℕ → List ℕ → List Side → List (List Open)
layers_of ys ws sides = map (λ s. shown ys ws s.first s.count) sides

-- the rows are long enough for one, and its layers climb
pub record Lies (ys ws : List ℕ) (s : Side) : Type 0 where
  pub in_ys : s.first + s.count ≤ length ys
  pub in_words : s.first + s.count ≤ length ws
  pub climbs : Climbs ys s.first s.count

abbrev pub Within : List ℕ → List ℕ → List Side → Type 0
Within ys ws [] = Unit {0}
Within ys ws (s ∷ ss) = Lies ys ws s × Within ys ws ss

-- a compact result that shows the cells `cs`
abbrev pub ShownIn : List (List Open) → Result → Type 0
ShownIn cs t = Shown cs t.indices t.counts t.rows.ys t.rows.words

-- the same result with words put in from place `k` on
abbrev pub linked : Result → ℕ → List ℕ → Result
linked t k ws = result_of t.indices t.counts (rows t.rows.ys (sets t.rows.words k ws) t.rows.areas)

-- ---- how far they are behind

-- of a cell beside, the layers below `from` are behind whoever stands at `y`
pub record Left (tall climb y : ℕ) (ys ws : List ℕ) (s : Side) (from : ℕ) : Type 0 where
  pub few : from ≤ s.count
  pub behind : AllBehind tall climb y ys ws s.first from

abbrev pub AllLeft : ℕ → ℕ → ℕ → List ℕ → List ℕ → List Side → List ℕ → Type 0
AllLeft tall climb y ys ws [] ts = Unit {0}
AllLeft tall climb y ys ws (s ∷ ss) ts = Left tall climb y ys ws s (get_or ts 0 0) × AllLeft tall climb y ys ws ss (drop 1 ts)

-- What a look through `n` layers from place `first` on found for whoever stands in `o`: all below `at` are behind, and `at` passes, or none from it on does.
pub record Looked (tall climb : ℕ) (o : Open) (ys ws : List ℕ) (first n : ℕ) (r : Look) : Type 0 where
  pub few : r.at ≤ n
  pub behind : AllBehind tall climb o.y ys ws first r.at
  pub hit : r.passes ≡ true → (r.at < n) × (passes tall climb o (shown_at ys ws (first + r.at)) ≡ true)
  pub miss : r.passes ≡ false → NonePasses ys ws first (passes tall climb o) r.at n
