-- The spans of one column: their heights, how a column ascends, and the rule of insertion (docs/RULES.md, "The store of spans").
use Rattle.std.specs.Prelude.{cond, List, [], ◌∷◌, ◌++◌, ℕ, suc, ◌-◌, ◌≤◌, min, max, ltb, leb}
use Rattle.field.specs.declared.Span.{Span}

-- the heights of a span, from its floor to its ceiling, without its area
pub record Range : Type 0 where
  pub floor : ℕ
  pub ceiling : ℕ

abbrev pub range : Span → Range
range s = record { floor = s.floor; ceiling = s.ceiling }

-- a column ascends, and nothing of it is below `b`: floor ≤ ceiling < next floor
abbrev pub Ascends : ℕ → List Range → Type 0
Ascends b [] = Unit {0}
Ascends b (r ∷ rs) = (b ≤ r.floor) × (r.floor ≤ r.ceiling) × Ascends (suc r.ceiling) rs

-- The new span merged with an old one: widened to cover both. If its ceiling is then at most the threshold above the old one's, the area is the
-- larger of the two, and else its own.
abbrev pub joined : ℕ → Span → Span → Span
joined threshold new old =
    let ceiling = max new.ceiling old.ceiling in
    record {
      floor = min new.floor old.floor;
      ceiling = ceiling;
      area = cond (leb (ceiling - old.ceiling) threshold) (max new.area old.area) new.area;
    }

-- What a new span's walk up a column makes of it: the spans passed, those merged, those above, and the new span as the merges have left it.
-- `E` stands for what a column lists, which is spans here and slots in a field.
pub record Walk (E : Type 0) : Type 0 where
  pub passed : List E
  pub merged : List E
  pub above : List E
  pub span : Span

abbrev pub passes : {E : Type 0} → E → Walk E → Walk E
passes e w = record { passed = e ∷ w.passed; merged = w.merged; above = w.above; span = w.span }

abbrev pub merges : {E : Type 0} → E → Walk E → Walk E
merges e w = record { passed = w.passed; merged = e ∷ w.merged; above = w.above; span = w.span }

abbrev pub stops : {E : Type 0} → Span → List E → Walk E
stops new es = record { passed = []; merged = []; above = es; span = new }

-- The walk, from the lowest span up, where `at e` is the span at `e`: a span that ends under the new floor is passed, one that starts over the new
-- ceiling ends the walk, and any other merges.
abbrev pub walk_up : {E : Type 0} → (E → Span) → ℕ → Span → List E → Walk E
walk_up at threshold new [] = stops new []
walk_up at threshold new (e ∷ es) =
    cond (ltb (at e).ceiling new.floor) (passes e (walk_up at threshold new es))
    (cond (ltb new.ceiling (at e).floor) (stops new (e ∷ es))
    (merges e (walk_up at threshold (joined threshold new (at e)) es)))

-- a column's spans after an insertion that finds a slot
abbrev pub insert_column : ℕ → Span → List Span → List Span
insert_column threshold new ss =
    let w = walk_up (λ s. s) threshold new ss in
    w.passed ++ w.span ∷ w.above
