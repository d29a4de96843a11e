-- What the inner functions of `into_compact` promise one another. No public contract cites this file.
use Rattle.std.specs.Prelude.{◌≡◌, Bool, false, ◌||◌, ℕ, zero, suc, ◌+◌, ◌<◌, ◌≤◌, max, length, get_or, set, take, ltb}
use mathlib.Core.List.{List, [], ◌∷◌, map, flatten}
use Rattle.std.proofs.lemmas.List.Edits.{sets}
use Rattle.compact_span.specs.Word.{word, height_of, no_links}
use Rattle.field.specs.declared.Span.{Span}
use Rattle.field.specs.Slots.{Contents, span_at}
use Rattle.field.specs.Open.{Open, space, opens, cells, indices}
use Rattle.field.specs.Links.{top_of, passes}
use Rattle.field.specs.Compact.{Rows, rows, Result, Room}

-- ---- the open spaces stored

-- the word of an open space that has no links yet
abbrev pub bare_word : Open → ℕ
bare_word o = word o.height no_links

-- open spaces stored from place `k` on, and all other entries as they were
abbrev pub laid : Rows → ℕ → List Open → Rows
laid t k os =
    rows (sets t.ys k (map (λ o. o.y) os)) (sets t.words k (map bare_word os)) (sets t.areas k (map (λ o. o.area) os))

-- the count at place `i` raised by `n`
abbrev pub raised_by : List ℕ → ℕ → ℕ → List ℕ
raised_by counts i n = set counts i (get_or counts i 0 + n)

-- What storing the open spaces of the column that has the slots `ss` asks for: room from place `start` on, and a count that stays below 256.
pub record Layable (k : Contents) (ss : List ℕ) (t : Rows) (start : ℕ) (sz : List ℕ) (i : ℕ) : Type 0 where
  pub room : Room (start + length (opens (map (span_at k) ss))) t
  pub cell : i < length sz
  pub under : get_or sz i 0 + length (opens (map (span_at k) ss)) ≤ 255

-- what it leaves: the place after them, the rows, and the count of its cell raised by as many
pub record Laid (k : Contents) (ss : List ℕ) (t : Rows) (start : ℕ) (sz : List ℕ) (i : ℕ) (t' : Rows) (end : ℕ) (sz' : List ℕ) : Type 0 where
  pub place : end ≡ start + length (opens (map (span_at k) ss))
  pub rows : t' ≡ laid t start (opens (map (span_at k) ss))
  pub counts : sz' ≡ raised_by sz i (length (opens (map (span_at k) ss)))

-- the compact result of columns, before the links
pub record Filled (columns : List (List Span)) (t t' : Result) : Type 0 where
  pub indices : t'.indices ≡ sets t.indices 0 (indices 0 columns)
  pub counts : t'.counts ≡ sets t.counts 0 (map length (cells columns))
  pub rows : t'.rows ≡ laid t.rows 0 (flatten (cells columns))

-- ---- and read again, for the links

-- an open space as its entries show it; the area is left out
abbrev pub shown_at : List ℕ → List ℕ → ℕ → Open
shown_at ys ws k = space (get_or ys k 0) (height_of (get_or ws k 0)) 0

-- `n` of them, from place `k` on
abbrev pub shown : List ℕ → List ℕ → ℕ → ℕ → List Open
shown ys ws k zero = []
shown ys ws k (suc n) = shown_at ys ws k ∷ shown ys ws (suc k) n

abbrev pub bare : Open → Open
bare o = space o.y o.height 0

-- Cell `i` is there: its count, and its open spaces from its index on, which follow those of the cells before it.
pub record Cell (cs : List (List Open)) (ix sz ys ws : List ℕ) (i : ℕ) : Type 0 where
  pub count : get_or sz i 0 ≡ length (get_or cs i [])
  pub index : 0 < length (get_or cs i []) → get_or ix i 0 ≡ length (flatten (take i cs))
  pub here : shown ys ws (get_or ix i 0) (get_or sz i 0) ≡ map bare (get_or cs i [])
  pub in_ys : get_or ix i 0 + get_or sz i 0 ≤ length ys
  pub in_words : get_or ix i 0 + get_or sz i 0 ≤ length ws

-- of `n` open spaces from place `k` on, each starts no lower than those before it
abbrev pub Climbs : List ℕ → ℕ → ℕ → Type 0
Climbs ys k n = (i j : ℕ) → i ≤ j → j < n → get_or ys (k + i) 0 ≤ get_or ys (k + j) 0

-- all cells are there, and climb
pub record Shown (cs : List (List Open)) (ix sz ys ws : List ℕ) : Type 0 where
  pub indices : length cs ≤ length ix
  pub counts : length cs ≤ length sz
  pub few : length cs ≤ 1048576
  pub cell : (i : ℕ) → i < length cs → Cell cs ix sz ys ws i
  pub climbs : (i : ℕ) → i < length cs → Climbs ys (get_or ix i 0) (get_or sz i 0)

-- ---- and looked through from the lowest up, for the links

-- Whoever stands in `o` passes to no open space that starts at `y` or above: there is not enough room left, or the step is too high.
abbrev pub past : ℕ → ℕ → Open → ℕ → Bool
past tall climb o y = ltb (top_of o) (max o.y y + tall) || ltb (o.y + climb) y

-- Whoever stands at `y` or above does not pass to `n`. So once a column has been climbed to there, `n` need not be looked at again.
abbrev pub Behind : ℕ → ℕ → ℕ → Open → Type 0
Behind tall climb y n = (o : Open) → y ≤ o.y → passes tall climb o n ≡ false

-- the lowest `l` of those from place `k` on are so
abbrev pub AllBehind : ℕ → ℕ → ℕ → List ℕ → List ℕ → ℕ → ℕ → Type 0
AllBehind tall climb y ys ws k l = (j : ℕ) → j < l → Behind tall climb y (shown_at ys ws (k + j))

-- of those from place `k` on, none from the `a`-th up to the `b`-th passes
abbrev pub NonePasses : List ℕ → List ℕ → ℕ → (Open → Bool) → ℕ → ℕ → Type 0
NonePasses ys ws k pass a b = (j : ℕ) → a ≤ j → j < b → pass (shown_at ys ws (k + j)) ≡ false
