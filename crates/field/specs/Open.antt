-- The open spaces of the compact result, column by column, and the cells that say where a column's are (docs/RULES.md, "Compact result").
use Rattle.std.specs.Prelude.{cond, List, [], ◌∷◌, ◌++◌, map, ℕ, ◌+◌, length, eqb}
use Rattle.compact_span.specs.Word.{gap_of}
use Rattle.field.specs.declared.Span.{Span}
use Rattle.field.specs.Slots.{span_at}
use Rattle.field.specs.Field.{Field}
use Rattle.field.specs.Walkable.{walkable, roof}

-- where an open space starts, how high it is, and the area of the span below it
pub record Open : Type 0 where
  pub y : ℕ
  pub height : ℕ
  pub area : ℕ

abbrev pub space : ℕ → ℕ → ℕ → Open
space y height area = record { y = y; height = height; area = area }

-- The open space above a span, with `top` above it, if the span is walkable: y is its ceiling, and the height is the gap, saturating and at most 255.
abbrev pub open_above : Span → ℕ → List Open
open_above s top = cond (walkable s) (space s.ceiling (gap_of s.ceiling top) s.area ∷ []) []

-- those of a column, from the lowest up; above a span is the floor of the next one, walkable or not, or the open top
abbrev pub opens : List Span → List Open
opens [] = []
opens (s ∷ ss) = open_above s (roof ss) ++ opens ss

-- the columns of a field, row by row, each as its spans, and their open spaces
abbrev pub columns_of : Field → List (List Span)
columns_of f = map (map (span_at f.contents)) f.columns

abbrev pub cells : List (List Span) → List (List Open)
cells columns = map opens columns

-- A column's index: how many open spaces come before its own, and 0 where it has no walkable span.
abbrev pub index_of : ℕ → List Span → ℕ
index_of before column = cond (eqb (length (opens column)) 0) 0 before

abbrev pub indices : ℕ → List (List Span) → List ℕ
indices before [] = []
indices before (column ∷ columns) = index_of before column ∷ indices (before + length (opens column)) columns
