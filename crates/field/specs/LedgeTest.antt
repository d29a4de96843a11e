-- The test for a ledge that the code carries out. It is proved to be true exactly where `Ledge` holds (proofs/LedgeSays.antt), so it need not be read
-- to know what the filter does.
use Rattle.std.specs.Prelude.{Bool, true, false, not, ◌||◌, cond, ℕ, ◌+◌, min, max, ltb, leb, eqb}
use mathlib.Core.List.{List, [], ◌∷◌, foldl}
use Rattle.field.specs.declared.Span.{Span}
use Rattle.field.specs.Slots.{none}
use Rattle.field.specs.Walkable.{roof}
use Rattle.field.specs.Ledges.{Stand}

abbrev pub some : (ℕ → Bool) → List ℕ → Bool
some p [] = false
some p (k ∷ ks) = p k || some p ks

abbrev pub gap : Stand → List Span → Bool
gap st ss = leb (st.top + st.height) (min st.roof (roof ss))

abbrev pub roomy : Stand → ℕ → ℕ → Bool
roomy st n c = leb (max st.top n + st.height) (min st.roof c)

-- what a look at neighbour spans has found: a drop, with which it ends, or the least and the greatest that can be stepped to
pub record View : Type 0 where
  pub drop : Bool
  pub low : ℕ
  pub high : ℕ

abbrev pub view : Bool → ℕ → ℕ → View
view drop low high = record { drop = drop; low = low; high = high }

-- nothing but the own ceiling
abbrev pub outset : Stand → View
outset st = view false st.top st.top

-- one span more, with ceiling `n` and `c` the floor above it
abbrev pub seen : Stand → ℕ → ℕ → View → View
seen st n c v =
    cond (v.drop || not (roomy st n c)) v
    (cond (ltb (n + st.climb) st.top) (view true v.low v.high)
    (cond (leb n (st.top + st.climb)) (view false (min v.low n) (max v.high n)) v))

-- one column more
abbrev pub looked : Stand → View → List Span → View
looked st v [] = v
looked st v (s ∷ ss) = looked st (seen st s.ceiling (roof ss) v) ss

abbrev pub looked_at : Stand → (ℕ → List Span) → List ℕ → View
looked_at st at ks = foldl (λ v k. looked st v (at k)) (outset st) ks

-- what the view of all of them says
abbrev pub tells : Stand → View → Bool
tells st v = v.drop || ltb (v.low + st.climb) v.high

abbrev pub ledge : Stand → (ℕ → List Span) → List ℕ → Bool
ledge st at ks = some (λ k. eqb k none) ks || (some (λ k. gap st (at k)) ks || tells st (looked_at st at ks))
