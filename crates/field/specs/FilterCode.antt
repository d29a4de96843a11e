-- What the inner functions of the filters promise one another. No public contract cites this file.
use Rattle.std.specs.Prelude.{◌≡◌, ◌≢◌, ◌⊎◌, cond, List, [], ◌∷◌, map, ℕ, ◌+◌, ◌-◌, ◌≤◌, max, get_or, eqb}
use Rattle.field.specs.declared.Span.{Span}
use Rattle.field.specs.Spans.{Ascends}
use Rattle.field.specs.Slots.{none, Contents, span_at, range_at}
use Rattle.field.specs.Inner.{Chain}
use Rattle.field.specs.Walkable.{open_top, roof}
use Rattle.field.specs.Ledges.{Stand}
use Rattle.field.specs.LedgeTest.{View, looked}

-- `ceiling` and `area` are those of the span below, or `area` is 0 where there is none
abbrev pub Beneath : ℕ → ℕ → List Span → Type 0
Beneath ceiling area [] = area ≡ 0
Beneath ceiling area (b ∷ below) = (b.ceiling ≡ ceiling) × (b.area ≡ area)

-- the floor of slot `s`, or the open top where there is none
abbrev pub roof_at : List ℕ → ℕ → ℕ
roof_at floors s = cond (eqb s none) open_top (get_or floors s 0)

-- the place x, z of a grid of w × h lies at its rim
abbrev pub Rim : ℕ → ℕ → ℕ → ℕ → Type 0
Rim w h x z = (x ≡ 0) ⊎ (h ≤ z + 1) ⊎ (w ≤ x + 1) ⊎ (z ≡ 0)

-- elsewhere the columns beside column `i` are these
abbrev pub around : ℕ → ℕ → List ℕ
around w i = (i - 1) ∷ (i + w) ∷ (i + 1) ∷ (i - w) ∷ []

-- the greatest of some numbers
abbrev pub greatest : List ℕ → ℕ
greatest [] = 0
greatest (n ∷ ns) = max n (greatest ns)

-- the highest of the lowest floors of some columns
abbrev pub hollow_of : (ℕ → List Span) → List ℕ → ℕ
hollow_of at ks = greatest (map (λ k. roof (at k)) ks)

-- every column of `ks` is on the grid
abbrev pub Inside : List ℕ → Type 0
Inside [] = Unit {0}
Inside (k ∷ ks) = (k ≢ none) × Inside ks

-- Slot `r` is a cursor in a column: nothing of the spans `whole` that lies below it can be stepped to by an agent that
-- needs the height `need` or more.
pub record Cursor (k : Contents) (nexts : List ℕ) (need : ℕ) (whole : List Span) (r : ℕ) : Type 0 where
  pub rest : List ℕ
  pub chain : Chain nexts r rest
  pub climbs : Ascends 0 (map (range_at k) rest)
  pub enough : (st : Stand) (v : View) → need ≤ st.top + st.height → looked st v whole ≡ looked st v (map (span_at k) rest)

-- a cursor in each of the columns `ks`
abbrev pub Cursors : Contents → List ℕ → ℕ → (ℕ → List Span) → List ℕ → List ℕ → Type 0
Cursors k nexts need at [] [] = Unit {0}
Cursors k nexts need at [] (r ∷ rs) = ⊥
Cursors k nexts need at (j ∷ ks) [] = ⊥
Cursors k nexts need at (j ∷ ks) (r ∷ rs) = Cursor k nexts need (at j) r × Cursors k nexts need at ks rs
