-- What a look at the columns beside may leave out: all that follows a drop, and spans without room. So the test for a ledge in its parts.
use mathlib.Core.Path.{◌≡◌, refl, sym, ap, ◌∙◌}
use mathlib.Core.Logic.{inl, inr}
use mathlib.Core.Bool.{true, false, not}
use mathlib.Core.List.{List, [], ◌∷◌, map, foldl}
use Prim.Native.Nat.{ℕ, suc, ◌+◌, ◌<◌, ◌≤◌, min, max}
use native.Mathlib.Omega.{arith}
use borrow.Author.Tests.{lt-leb, le-leb, lt-ltb, le-ltb, leb-true, leb-false, eq-eqb, ne_eqb}
use lib.ListN.{get_or}
use lib.Dec.{ltb, leb, eqb}
use Rattle.field.specs.declared.Span.{Span}
use Rattle.field.specs.Spans.{Ascends}
use Rattle.field.specs.Slots.{none, Contents, span_at, range_at}
use Rattle.field.specs.Stretches.{In}
use Rattle.field.specs.Walkable.{roof}
use Rattle.field.specs.Ledges.{Stand, stand}
use Rattle.field.specs.LedgeTest.{some, gap, roomy, View, view, outset, seen, looked, looked_at, tells, ledge}
use Rattle.field.specs.Filters.{firm}
use Rattle.field.specs.FilterCode.{hollow_of, Inside}
use Rattle.field.proofs.Basics.{by-test}

pub not-leb : (a b : ℕ) → not (leb a b) ≡ ltb b a
not-leb a b =
    by-test (leb a b) (λ e. rw (e, le-ltb b a (leb-true a b e))) (λ e. rw (e, lt-ltb b a (leb-false a b e)))

-- ---- one span

-- where the floor `c` is high enough for the agent, and the ceiling `n` low enough under its own roof, the room between the two is all that is left to test
pub roomy-between : (st : Stand) (n c : ℕ) → st.top + st.height ≤ st.roof → st.top + st.height ≤ c → n + st.height ≤ st.roof → roomy st n c ≡ leb (n + st.height) c
roomy-between st n c a b d =
    by-test (leb (n + st.height) c)
    (λ e. rw e (le-leb (max st.top n + st.height) (min st.roof c) (omega (arith, leb-true (n + st.height) c e))))
    (λ e. rw e (lt-leb (max st.top n + st.height) (min st.roof c) (omega (arith, leb-false (n + st.height) c e))))

seen-drop : (st : Stand) (n c : ℕ) (v : View) → v.drop ≡ true → seen st n c v ≡ v
seen-drop st n c v e = rw e

pub seen-shut : (st : Stand) (n c : ℕ) (v : View) → min st.roof c < max st.top n + st.height → seen st n c v ≡ v
seen-shut st n c v l =
    let r = lt-leb (max st.top n + st.height) (min st.roof c) l in
    by-test v.drop (λ d. rw d) (λ d. rw (d, r))

-- by the tests that tell what becomes of a span, where no drop was found yet
module _ (st : Stand) (n c : ℕ) (v : View) (none_yet : v.drop ≡ false) where
  pub see-shut : roomy st n c ≡ false → v ≡ seen st n c v
  see-shut r = rw (none_yet, r)

  pub see-falls : roomy st n c ≡ true → leb st.top (n + st.climb) ≡ false → view true v.low v.high ≡ seen st n c v
  see-falls r a = rw (none_yet, r, lt-ltb (n + st.climb) st.top (leb-false st.top (n + st.climb) a))

  pub see-above : roomy st n c ≡ true → leb st.top (n + st.climb) ≡ true → leb n (st.top + st.climb) ≡ false → v ≡ seen st n c v
  see-above r a b = rw (none_yet, r, le-ltb (n + st.climb) st.top (leb-true st.top (n + st.climb) a), b)

  pub see-level : roomy st n c ≡ true → leb st.top (n + st.climb) ≡ true → leb n (st.top + st.climb) ≡ true → view false (min v.low n) (max v.high n) ≡ seen st n c v
  see-level r a b = rw (none_yet, r, le-ltb (n + st.climb) st.top (leb-true st.top (n + st.climb) a), b)

-- ---- a column

pub looked-drop : (st : Stand) (v : View) (ss : List Span) → v.drop ≡ true → looked st v ss ≡ v
looked-drop st v [] e = refl
looked-drop st v (s ∷ ss) e = rw (seen-drop st s.ceiling (roof ss) v e) (looked-drop st v ss e)

-- an agent can step nowhere from where there is too little room to stand
pub looked-low : (st : Stand) (v : View) (ss : List Span) → st.roof < st.top + st.height → looked st v ss ≡ v
looked-low st v [] l = refl
looked-low st v (s ∷ ss) l = rw (seen-shut st s.ceiling (roof ss) v (omega arith)) (looked-low st v ss l)

-- nor to a span under a floor that is too low
pub looked-skip : (st : Stand) (v : View) (s : Span) (ss : List Span) → roof ss < st.top + st.height → looked st v (s ∷ ss) ≡ looked st v ss
looked-skip st v s ss l = rw (seen-shut st s.ceiling (roof ss) v (omega arith))

-- nor to one that is too high, or any above it
looked-high : (st : Stand) (v : View) (k : Contents) (b : ℕ) (ss : List ℕ) → Ascends b (map (range_at k) ss) → st.roof < b + st.height → looked st v (map (span_at k) ss) ≡ v
looked-high st v k b [] r l = refl
looked-high st v k b (s ∷ ss) r l =
    let lo = r.0 in
    let up = r.1 in
    ap (λ (w : View). looked st w (map (span_at k) ss)) (seen-shut st (get_or k.ceilings s 0) (roof (map (span_at k) ss)) v (omega arith))
    ∙ looked-high st v k (suc (get_or k.ceilings s 0)) ss r.2 (omega arith)

pub looked-stop : (st : Stand) (v : View) (k : Contents) (s : ℕ) (ss : List ℕ) → Ascends 0 (map (range_at k) (s ∷ ss)) → st.roof < get_or k.ceilings s 0 + st.height → looked st v (map (span_at k) (s ∷ ss)) ≡ v
looked-stop st v k s ss r l =
    ap (λ (w : View). looked st w (map (span_at k) ss)) (seen-shut st (get_or k.ceilings s 0) (roof (map (span_at k) ss)) v (omega arith))
    ∙ looked-high st v k (suc (get_or k.ceilings s 0)) ss r.2 (omega arith)

-- ---- all columns

pub all_drop : (st : Stand) (at : ℕ → List Span) (v : View) (ks : List ℕ) → v.drop ≡ true → foldl (λ v k. looked st v (at k)) v ks ≡ v
all_drop st at v [] e = refl
all_drop st at v (k ∷ ks) e = rw (looked-drop st v (at k) e) (all_drop st at v ks e)

all-low : (st : Stand) (at : ℕ → List Span) (v : View) (ks : List ℕ) → st.roof < st.top + st.height → foldl (λ v k. looked st v (at k)) v ks ≡ v
all-low st at v [] l = refl
all-low st at v (k ∷ ks) l = rw (looked-low st v (at k) l) (all-low st at v ks l)

-- ---- the test

inside-some : (ks : List ℕ) → Inside ks → some (λ k. eqb k none) ks ≡ false
inside-some [] i = refl
inside-some (k ∷ ks) i = rw (ne_eqb k none i.0) (inside-some ks i.1)

gap-low : (st : Stand) (at : ℕ → List Span) (ks : List ℕ) → st.roof < st.top + st.height → some (λ k. gap st (at k)) ks ≡ false
gap-low st at [] l = refl
gap-low st at (k ∷ ks) l =
    rw (lt-leb (st.top + st.height) (min st.roof (roof (at k))) (omega arith)) (gap-low st at ks l)

gap-none : (st : Stand) (at : ℕ → List Span) (ks : List ℕ) → hollow_of at ks < st.top + st.height → some (λ k. gap st (at k)) ks ≡ false
gap-none st at [] l = refl
gap-none st at (k ∷ ks) l =
    rw (lt-leb (st.top + st.height) (min st.roof (roof (at k))) (omega arith)) (gap-none st at ks (omega arith))

gap-some : (st : Stand) (at : ℕ → List Span) (k : ℕ) (ks : List ℕ) → st.top + st.height ≤ st.roof → st.top + st.height ≤ hollow_of at (k ∷ ks) → some (λ k. gap st (at k)) (k ∷ ks) ≡ true
gap-some st at k [] r l = rw (le-leb (st.top + st.height) (min st.roof (roof (at k))) (omega arith))
gap-some st at k (j ∷ ks) r l =
    by-test (gap st (at k)) (λ e. rw e)
    (λ e. rw e (gap-some st at j ks r (omega (arith, leb-false (st.top + st.height) (min st.roof (roof (at k))) e))))

module _ (st : Stand) (at : ℕ → List Span) (ks : List ℕ) (i : Inside ks) where
  -- too little room to stand, so nothing to lose
  pub ledge-low : st.roof < st.top + st.height → ledge st at ks ≡ false
  ledge-low l =
      rw (inside-some ks i, gap-low st at ks l, all-low st at (outset st) ks l, le-ltb (st.top + st.climb) st.top (omega arith))

  -- no column has a gap
  pub ledge-look : hollow_of at ks < st.top + st.height → ledge st at ks ≡ tells st (looked_at st at ks)
  ledge-look l = rw (inside-some ks i, gap-none st at ks l)

-- some column has one
pub ledge-gap : (st : Stand) (at : ℕ → List Span) (k : ℕ) (ks : List ℕ) → Inside (k ∷ ks) → st.top + st.height ≤ st.roof → st.top + st.height ≤ hollow_of at (k ∷ ks) → ledge st at (k ∷ ks) ≡ true
ledge-gap st at k ks i r l = rw (inside-some (k ∷ ks) i) (rw (gap-some st at k ks r l))

off-some : (ks : List ℕ) → In none ks → some (λ k. eqb k none) ks ≡ true
off-some [] o = absurd o
off-some (k ∷ ks) (inl e) = rw (eq-eqb k none (sym e))
off-some (k ∷ ks) (inr o) = by-test (eqb k none) (λ e. rw e) (λ e. rw e (off-some ks o))

-- a column is off the grid
pub ledge-off : (st : Stand) (at : ℕ → List Span) (ks : List ℕ) → In none ks → ledge st at ks ≡ true
ledge-off st at ks o = rw (off-some ks o)

-- so every span beside it is cleared
pub firm-off : (height climb : ℕ) (at : ℕ → List Span) (ks : List ℕ) → In none ks → (s : Span) (above : List Span) → firm height climb at ks s above ≡ 0
firm-off height climb at ks o s above = rw (ledge-off (stand height climb s above) at ks o)
