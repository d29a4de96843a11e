-- What `into_compact` answers and leaves (docs/RULES.md, "Compact result").
use Rattle.std.specs.Prelude.{◌≡◌, Bool, cond, ℕ, ◌*◌, ◌<◌, ◌≤◌, length, get_or, take, eqb, pos, Float}
use mathlib.Core.List.{List, [], ◌∷◌, map, flatten}
use Rattle.std.proofs.lemmas.List.Edits.{sets}
use Rattle.std.specs.Float.{binary32}
use Rattle.std.specs.Float.Ieee.{add, mul, of_int}
use Rattle.replies.specs.Said.{Said, whole, real, say, just, Asks}
use Rattle.grid.specs.declared.Grid.{Grid}
use Rattle.grid.specs.Grid.{width, height, columns}
use Rattle.field.specs.declared.Span.{Span}
use Rattle.field.specs.Field.{Field, Holds}
use Rattle.field.specs.Store.{Store, Fitting, cleared, Admits}
use Rattle.field.specs.Open.{Open, columns_of, cells, indices}
use Rattle.field.specs.Links.{passes, words, largest_missed}

-- ---- what is lent for it

-- an entry for each open space
pub record Rows : Type 0 where
  pub ys : List ℕ
  pub words : List ℕ
  pub areas : List ℕ

abbrev pub rows : List ℕ → List ℕ → List ℕ → Rows
rows ys words areas = record { ys = ys; words = words; areas = areas }

-- besides, an entry for each column
pub record Result : Type 0 where
  pub indices : List ℕ
  pub counts : List ℕ
  pub rows : Rows

abbrev pub result_of : List ℕ → List ℕ → Rows → Result
result_of indices counts rows = record { indices = indices; counts = counts; rows = rows }

-- what reply 4 asks for: a store that fits, and an index and a count for each of `n` columns
pub record Suiting (n : ℕ) (s : Store) (t : Result) : Type 0 where
  pub fitting : Fitting n s
  pub indices : n ≤ length t.indices
  pub counts : n ≤ length t.counts

-- what reply 15 asks for: room for `n` open spaces
pub record Room (n : ℕ) (t : Rows) : Type 0 where
  pub ys : n ≤ length t.ys
  pub words : n ≤ length t.words
  pub areas : n ≤ length t.areas

-- what reply 11 asks for: no column has more than 255 walkable spans
abbrev pub Few : List (List Open) → Type 0
Few cs = (i : ℕ) → i < length cs → length (get_or cs i []) ≤ 255

-- ---- what it holds afterwards

-- The complete result: entries past the last column and past the last open space are as they were.
abbrev pub complete : (Open → Open → Bool) → ℕ → ℕ → List (List Span) → Result → Result
complete pass w h columns t =
    let cs = cells columns in
    result_of (sets t.indices 0 (indices 0 columns)) (sets t.counts 0 (map length cs))
    (rows (sets t.rows.ys 0 (map (λ o. o.y) (flatten cs))) (sets t.rows.words 0 (words pass w h cs))
    (sets t.rows.areas 0 (map (λ o. o.area) (flatten cs))))

-- ---- the call

-- what it answers and leaves
pub record Outcome : Type 0 where
  pub said : Said
  pub store : Store
  pub result : Result

abbrev pub outcome : Said → Store → Result → Outcome
outcome said s t = record { said = said; store = s; result = t }

-- an end of the call that leaves the lent result as it was
abbrev pub keeping : Result → Said → Store → Outcome
keeping t said s = outcome said s t

-- the reply's box: its greatest y, raised by walkable height × cell height, one rounding for each operation
abbrev pub raised_top : Grid → ℕ → Float
raised_top g tall = add binary32 g.max.y (mul binary32 (of_int binary32 (pos tall)) g.cell_height)

-- a complete result: 12, with the largest layer missed, where there is one, and else 0; both carry the raised y
abbrev pub complete_says : ℕ → Float → Said
complete_says layer top = cond (eqb layer 0) (say 0 (real top ∷ [])) (say 12 (whole layer ∷ real top ∷ []))

-- the field that the store holds on a grid of w × h: 11, then 15, then 12 or 0
abbrev pub Compacts : ℕ → ℕ → Float → ℕ → ℕ → Store → Result → Outcome → Type 0
Compacts w h top tall climb s t o =
    (f : Field)
    × Holds (take (w * h) s.heads) s.slots f
    × (let pass = passes tall climb in
    let cs = cells (columns_of f) in
    Asks (Few cs) (keeping t (just 11) (cleared s))
    (Asks (Room (length (flatten cs)) t.rows) (keeping t (just 15) (cleared s))
    (λ o. o ≡ outcome (complete_says (largest_missed pass w h cs) top) (cleared s) (complete pass w h (columns_of f) t)))
    o)

-- 1, 2, 3, 4, 14, then these
abbrev pub Compacted : Grid → ℕ → ℕ → Store → Result → Outcome → Type 0
Compacted g tall climb s t =
    Admits (keeping t) g (Suiting (columns g) s t) s (Compacts (width g) (height g) (raised_top g tall) tall climb s t)
