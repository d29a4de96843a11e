-- When a span is at a ledge (docs/RULES.md, "Filters, in order"). Differences are written as sums: a - b ≥ c is b + c ≤ a.
use Rattle.std.specs.Prelude.{◌≡◌, ◌⊎◌, List, [], ◌∷◌, ℕ, ◌+◌, ◌<◌, ◌≤◌, min, max}
use Rattle.field.specs.declared.Span.{Span}
use Rattle.field.specs.Slots.{none}
use Rattle.field.specs.Stretches.{In}
use Rattle.field.specs.Walkable.{roof}

-- where an agent stands, and what it needs: F, the ceiling of a span; C, the floor above it; the walkable height; the climb
pub record Stand : Type 0 where
  pub top : ℕ
  pub roof : ℕ
  pub height : ℕ
  pub climb : ℕ

abbrev pub stand : ℕ → ℕ → Span → List Span → Stand
stand height climb s above = record { top = s.ceiling; roof = roof above; height = height; climb = climb }

-- some column of `ks` is so
abbrev pub Some : (ℕ → Type 0) → List ℕ → Type 0
Some P ks = (k : ℕ) × In k ks × P k

-- a column has a span with ceiling `n`, and `c` is the floor above it
abbrev pub Has : List Span → ℕ → ℕ → Type 0
Has [] n c = ⊥
Has (s ∷ ss) n c = ((n ≡ s.ceiling) × (c ≡ roof ss)) ⊎ Has ss n c

-- such a span is roomy: min(C, c) - max(F, n) ≥ walkable height
abbrev pub Roomy : Stand → ℕ → ℕ → Type 0
Roomy st n c = max st.top n + st.height ≤ min st.roof c

-- below the lowest span of a column there is room, and nothing to stand on: min(C, lowest floor) - F ≥ walkable height
abbrev pub Gap : Stand → List Span → Type 0
Gap st ss = st.top + st.height ≤ min st.roof (roof ss)

-- a roomy span of a column is too far down: n - F < -climb
abbrev pub Drop : Stand → List Span → Type 0
Drop st ss = (n : ℕ) × (c : ℕ) × (Has ss n c × Roomy st n c × (n + st.climb < st.top))

-- `n` is the ceiling of a roomy span of a column, and |n - F| ≤ climb
abbrev pub Near : Stand → List Span → ℕ → Type 0
Near st ss n = (c : ℕ) × (Has ss n c × Roomy st n c × ((st.top ≤ n + st.climb) × (n ≤ st.top + st.climb)))

-- `n` is such a ceiling in some column, or F itself
abbrev pub Step : Stand → (ℕ → List Span) → List ℕ → ℕ → Type 0
Step st at ks n = (n ≡ st.top) ⊎ Some (λ k. Near st (at k) n) ks

-- the greatest of these minus the least is above the climb: some two of them are that far apart
abbrev pub Steep : Stand → (ℕ → List Span) → List ℕ → Type 0
Steep st at ks = (low : ℕ) × (high : ℕ) × (Step st at ks low × Step st at ks high × (low + st.climb < high))

-- Any of these holds, where `ks` are the columns beside, with `none` for one off the grid, and `at k` has the spans of column `k`.
abbrev pub Ledge : Stand → (ℕ → List Span) → List ℕ → Type 0
Ledge st at ks = Some (λ k. k ≡ none) ks ⊎ Some (λ k. Gap st (at k)) ks ⊎ Some (λ k. Drop st (at k)) ks ⊎ Steep st at ks
