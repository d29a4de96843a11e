-- No second outcome: what a call of a filter answers and leaves is fixed by what it is given.
use Prim.Native.Nat.{ℕ}
use mathlib.Core.Path.{subst}
use Rattle.replies.proofs.Laws.{One}
use Rattle.grid.specs.declared.Grid.{Grid}
use Rattle.grid.specs.Grid.{width, height, columns}
use Rattle.field.specs.Field.{Field}
use Rattle.field.specs.Store.{Store, Fitting, left, Becomes}
use Rattle.field.specs.Filters.{low_obstacles, ledges, low_ceilings, Filters, Filtered}
use Rattle.field.proofs.Unique.{field_fixed}
use Rattle.field.proofs.Outcomes.{admits-one, becomes-one}

filters-one : (n : ℕ) (filter : Field → Field) (s : Store) → One (Filters n filter s)
filters-one n filter s o o' a b =
    becomes-one n s (filter a.0) o o' a.2 (subst (λ (f : Field). Becomes n s (filter f) o') (field_fixed b.1 a.1) b.2)

-- of any filter
pub filtered-one : (g : Grid) (filter : Field → Field) (s : Store) → One (Filtered g filter s)
filtered-one g filter s =
    admits-one left g (Fitting (columns g) s) s (Filters (columns g) filter s) (filters-one (columns g) filter s)

-- and so of each of the three
pub low-obstacles-one : (g : Grid) (climb : ℕ) (s : Store) → One (Filtered g (low_obstacles climb) s)
low-obstacles-one g climb s = filtered-one g (low_obstacles climb) s

pub ledges-one : (g : Grid) (tall climb : ℕ) (s : Store) → One (Filtered g (ledges (width g) (height g) tall climb) s)
ledges-one g tall climb s = filtered-one g (ledges (width g) (height g) tall climb) s

pub low-ceilings-one : (g : Grid) (tall : ℕ) (s : Store) → One (Filtered g (low_ceilings tall) s)
low-ceilings-one g tall s = filtered-one g (low_ceilings tall) s
