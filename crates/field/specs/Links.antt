-- The links from one open space to those of the columns beside it (docs/RULES.md, "Compact result").
use Rattle.std.specs.Prelude.{Bool, ◌&&◌, cond, ℕ, suc, ◌+◌, min, max, get_or, take, drop, leb, eqb}
use mathlib.Core.List.{List, [], ◌∷◌, ◌++◌, map, foldl}
use Rattle.compact_span.specs.Word.{word, empty_mark}
use Rattle.field.specs.Beside.{beside}
use Rattle.field.specs.Open.{Open}

-- where an open space ends
abbrev pub top_of : Open → ℕ
top_of o = o.y + o.height

-- The two tests from an open space to one beside it: min(tops) - max(y's) ≥ walkable height, and |y difference| ≤ climb. Differences are written as sums.
abbrev pub passes : ℕ → ℕ → Open → Open → Bool
passes tall climb o n =
    leb (max o.y n.y + tall) (min (top_of o) (top_of n))
    && (leb n.y (o.y + climb) && leb o.y (n.y + climb))

-- ---- the layers of one cell: its open spaces, numbered from the lowest up

-- the lowest layer that passes a test, counted from `l` on; the empty mark where none does
abbrev pub lowest : (Open → Bool) → ℕ → List Open → ℕ
lowest pass l [] = empty_mark
lowest pass l (n ∷ ns) = cond (pass n) l (lowest pass (suc l) ns)

-- the largest layer that passes it, counted from `l` on; `best` where none does
abbrev pub largest : (Open → Bool) → ℕ → ℕ → List Open → ℕ
largest pass best l [] = best
largest pass best l (n ∷ ns) = largest pass (cond (pass n) l best) (suc l) ns

-- the link: to the lowest layer up to 61
abbrev pub link : (Open → Bool) → List Open → ℕ
link pass ns = lowest pass 0 (take 62 ns)

-- what reply 12 asks for: where the link is empty, the largest layer from 63 on that passes; else 0
abbrev pub missed : (Open → Bool) → List Open → ℕ
missed pass ns = cond (eqb (link pass ns) empty_mark) (largest pass 0 63 (drop 63 ns)) 0

-- ---- in the four directions

-- the cells beside column `i` of a grid of w × h; off the grid is no open space
abbrev pub around : ℕ → ℕ → List (List Open) → ℕ → List (List Open)
around w h cs i = map (λ k. get_or cs k []) (beside w h i)

-- the data word of an open space, from the cells beside it
abbrev pub word_of : (Open → Open → Bool) → List (List Open) → Open → ℕ
word_of pass sides o = word o.height (map (link (pass o)) sides)

-- the largest layer missed in some direction, or 0
abbrev pub missed_of : (Open → Open → Bool) → List (List Open) → Open → ℕ
missed_of pass sides o = foldl max 0 (map (missed (pass o)) sides)

-- ---- of all columns

-- what `g` gives for each open space from its column's number, column by column, the first having number `i`
abbrev pub for_each : (ℕ → Open → ℕ) → ℕ → List (List Open) → List ℕ
for_each g i [] = []
for_each g i (c ∷ cs) = map (g i) c ++ for_each g (suc i) cs

abbrev pub words : (Open → Open → Bool) → ℕ → ℕ → List (List Open) → List ℕ
words pass w h cs = for_each (λ i. word_of pass (around w h cs i)) 0 cs

-- the largest layer missed anywhere, or 0
abbrev pub largest_missed : (Open → Open → Bool) → ℕ → ℕ → List (List Open) → ℕ
largest_missed pass w h cs = foldl max 0 (for_each (λ i. missed_of pass (around w h cs i)) 0 cs)
