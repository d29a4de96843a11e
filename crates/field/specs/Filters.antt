-- The filters (docs/RULES.md, "Filters, in order"): the area that each gives a span, and what a call of one answers and leaves.
use Rattle.std.specs.Prelude.{not, ◌&&◌, cond, List, [], ◌∷◌, map, ℕ, suc, ◌+◌, set, take, ltb, leb}
use Rattle.grid.specs.declared.Grid.{Grid}
use Rattle.grid.specs.Grid.{columns}
use Rattle.field.specs.declared.Span.{Span}
use Rattle.field.specs.Slots.{Contents, contents, span_at}
use Rattle.field.specs.Field.{Field, spans, Holds}
use Rattle.field.specs.Store.{Store, Fitting, Outcome, left, Admits, Becomes}
use Rattle.field.specs.Walkable.{walkable, roof}
use Rattle.field.specs.Beside.{beside}
use Rattle.field.specs.Ledges.{stand}
use Rattle.field.specs.LedgeTest.{ledge}

-- ---- a filter on a field

-- A rule gives a span's area afterwards, from the number of its column, the spans below it, itself, and the spans above it, the nearest first.
abbrev pub Rule : Type 0
Rule = ℕ → List Span → Span → List Span → ℕ

-- the areas of a column by its rule, `below` being what lies under its first span
abbrev pub ruled : (List Span → Span → List Span → ℕ) → List Span → List Span → List ℕ
ruled rule below [] = []
ruled rule below (s ∷ ss) = rule below s ss ∷ ruled rule (s ∷ below) ss

-- the areas of all slots once those of a column are given new ones
abbrev pub assign : List ℕ → List ℕ → List ℕ → List ℕ
assign areas [] new = areas
assign areas (s ∷ ss) [] = areas
assign areas (s ∷ ss) (a ∷ new) = assign (set areas s a) ss new

-- and once those of all columns are, from column `i` on, where `k` is what the slots held before the filter
abbrev pub assign_all : Rule → Contents → List ℕ → ℕ → List (List ℕ) → List ℕ
assign_all rule k areas i [] = areas
assign_all rule k areas i (c ∷ cs) = assign_all rule k (assign areas c (ruled (rule i) [] (map (span_at k) c))) (suc i) cs

-- The field after a filter: every rule reads the spans as they were, and all but the areas of spans in columns is kept.
abbrev pub filtered : Rule → Field → Field
filtered rule f =
    let k = f.contents in
    record {
      columns = f.columns;
      spare = f.spare;
      contents = contents k.floors k.ceilings (assign_all rule k k.areas 0 f.columns);
    }

-- ---- low obstacles

-- An unwalkable span takes the area of the one below it, where that one was walkable and their ceilings are no further apart than the climb.
abbrev pub raised : ℕ → List Span → Span → ℕ
raised climb [] s = s.area
raised climb (b ∷ below) s =
    cond (not (walkable s) && walkable b && leb s.ceiling (b.ceiling + climb)) b.area s.area

abbrev pub low_obstacles : ℕ → Field → Field
low_obstacles climb f = filtered (λ i below s above. raised climb below s) f

-- ---- ledges

-- A walkable span's area becomes 0 at a ledge; an unwalkable one's is 0 as it is. The test `ledge` is true exactly where `Ledge` holds.
abbrev pub firm : ℕ → ℕ → (ℕ → List Span) → List ℕ → Span → List Span → ℕ
firm height climb at ks s above = cond (ledge (stand height climb s above) at ks) 0 s.area

abbrev pub ledges : ℕ → ℕ → ℕ → ℕ → Field → Field
ledges w h height climb f = filtered (λ i below s above. firm height climb (spans f) (beside w h i) s above) f

-- ---- low ceilings

-- The area becomes 0 if the floor above is less than the walkable height over the ceiling.
abbrev pub roomed : ℕ → Span → List Span → ℕ
roomed height s above = cond (ltb (roof above) (s.ceiling + height)) 0 s.area

abbrev pub low_ceilings : ℕ → Field → Field
low_ceilings height f = filtered (λ i below s above. roomed height s above) f

-- ---- the call of a filter

-- the field that the store holds is filtered, and nothing of the store but its areas and marks is changed by that
abbrev pub Filters : ℕ → (Field → Field) → Store → Outcome → Type 0
Filters n filter s o = (f : Field) × Holds (take n s.heads) s.slots f × Becomes n s (filter f) o

-- 1, 2, 3, 4, 14, or else it is filtered
abbrev pub Filtered : Grid → (Field → Field) → Store → Outcome → Type 0
Filtered g filter s = Admits left g (Fitting (columns g) s) s (Filters (columns g) filter s)
