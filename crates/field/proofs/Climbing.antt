-- Up a column that ascends: its open spaces start one above the other, what is past stays past above it, and what was not reached and is not past stays behind.
use mathlib.Core.Path.{◌≡◌, subst}
use mathlib.Core.Bool.{true, false, ◌&&◌}
use mathlib.Core.List.{List, [], ◌∷◌, map}
use Prim.Native.Nat.{ℕ, zero, suc, ◌+◌, ◌<◌, ◌≤◌, min, max}
use native.Mathlib.Omega.{arith}
use native.Mathlib.Nat.{not-suc-le-zero, le_of_suc-le-suc}
use borrow.Author.Tests.{leb-false, lt-leb, ltb-true, ltb-false}
use lib.ListN.{length, get_or}
use lib.Dec.{leb, ltb}
use Rattle.field.specs.declared.Span.{Span}
use Rattle.field.specs.Spans.{range, Ascends}
use Rattle.field.specs.Walkable.{walkable}
use Rattle.field.specs.Open.{Open, opens}
use Rattle.field.specs.Links.{top_of, passes}
use Rattle.field.specs.Rowing.{shown_at, past, Behind, AllBehind}
use Rattle.field.proofs.Basics.{by-test}
use Rattle.field.proofs.Opening.{nowhere}

abbrev Above : ℕ → List Open → Type 0
Above b os = (j : ℕ) → j < length os → b ≤ (get_or os j nowhere).y

abbrev Climbing : List Open → Type 0
Climbing os = (i j : ℕ) → i ≤ j → j < length os → (get_or os i nowhere).y ≤ (get_or os j nowhere).y

above-cons : (b : ℕ) (o : Open) (os : List Open) → b ≤ o.y → Above b os → Above b (o ∷ os)
above-cons b o os h rest zero p = h
above-cons b o os h rest (suc j) p = rest j (le_of_suc-le-suc p)

climbing-cons : (o : Open) (os : List Open) → Above o.y os → Climbing os → Climbing (o ∷ os)
climbing-cons o os above rest zero zero le p = omega arith
climbing-cons o os above rest zero (suc j) le p = above j (le_of_suc-le-suc p)
climbing-cons o os above rest (suc i) zero le p = absurd (not-suc-le-zero le)
climbing-cons o os above rest (suc i) (suc j) le p = rest i j (le_of_suc-le-suc le) (le_of_suc-le-suc p)

opens-above : (b : ℕ) (ss : List Span) → Ascends b (map range ss) → Above b (opens ss)
opens-above b [] up = λ j p. absurd (not-suc-le-zero p)
opens-above b (s ∷ ss) up =
    let rest : Above b (opens ss) = λ j p. omega (arith, opens-above (suc s.ceiling) ss up.2 j p, up.0, up.1) in
    by-test (walkable s) (λ e. rw e (above-cons b _ (opens ss) (omega (arith, up.0, up.1)) rest)) (λ e. rw e rest)

pub opens-climb : (b : ℕ) (ss : List Span) → Ascends b (map range ss) → Climbing (opens ss)
opens-climb b [] up = λ i j le p. absurd (not-suc-le-zero p)
opens-climb b (s ∷ ss) up =
    let rest = opens-climb (suc s.ceiling) ss up.2 in
    by-test (walkable s) (λ e. rw e (climbing-cons _ (opens ss) (λ j p. omega (arith, opens-above (suc s.ceiling) ss up.2 j p)) rest)) (λ e. rw e rest)

-- ---- the tests between two open spaces

module _ (tall climb : ℕ) where
  no_room : (o n : Open) → min (top_of o) (top_of n) < max o.y n.y + tall → passes tall climb o n ≡ false
  no_room o n h = rw (lt-leb (max o.y n.y + tall) (min (top_of o) (top_of n)) h)

  too-high : (o n : Open) → o.y + climb < n.y → passes tall climb o n ≡ false
  too-high o n h =
      by-test (leb (max o.y n.y + tall) (min (top_of o) (top_of n))) (λ t. rw (t, lt-leb n.y (o.y + climb) h)) (λ t. rw t)

  too-deep : (o n : Open) → n.y + climb < o.y → passes tall climb o n ≡ false
  too-deep o n h =
      by-test (leb (max o.y n.y + tall) (min (top_of o) (top_of n)))
      (λ t. by-test (leb n.y (o.y + climb)) (λ u. rw (t, u, lt-leb o.y (n.y + climb) h)) (λ u. rw (t, u)))
      (λ t. rw t)

  pub past-none : (o : Open) (y : ℕ) → past tall climb o y ≡ true → (n : Open) → y ≤ n.y → passes tall climb o n ≡ false
  past-none o y e n h =
      by-test (ltb (top_of o) (max o.y y + tall)) (λ t. no_room o n (omega (arith, ltb-true (top_of o) (max o.y y + tall) t)))
      (λ t. too-high o n (omega (arith, ltb-true (o.y + climb) y (rw t at e))))

  -- the reason why `o` does not reach `n` holds for whoever stands higher
  pub stays-behind : (o n : Open) → past tall climb o n.y ≡ false → passes tall climb o n ≡ false → Behind tall climb o.y n
  stays-behind o n e f o' h =
      by-test (ltb (top_of o) (max o.y n.y + tall)) (λ t. absurd-of (rw t at e))
      (λ t.
      by-test (leb (max o.y n.y + tall) (min (top_of o) (top_of n)))
      (λ u. too-deep o' n (omega (arith, h, deep (rw t at e) (rw u at f))))
      (λ u. no_room o' n (omega (arith, h, leb-false (max o.y n.y + tall) (min (top_of o) (top_of n)) u, ltb-false (top_of o) (max o.y n.y + tall) t))))
    where
      absurd-of : true ≡ false → passes tall climb o' n ≡ false
      absurd-of z = absurd (let w : ◌≡◌ {A = ℕ} 0 1 = cc in omega arith)

      deep : ltb (o.y + climb) n.y ≡ false → leb n.y (o.y + climb) && leb o.y (n.y + climb) ≡ false → n.y + climb < o.y
      deep t u = by-test (leb n.y (o.y + climb)) (λ v. leb-false o.y (n.y + climb) (rw v at u)) (λ v. omega (arith, leb-false n.y (o.y + climb) v, ltb-false (o.y + climb) n.y t))

  -- one more behind
  pub behind-next : (y : ℕ) (ys ws : List ℕ) (k l : ℕ) → AllBehind tall climb y ys ws k l → Behind tall climb y (shown_at ys ws (k + l)) → AllBehind tall climb y ys ws k (l + 1)
  behind-next y ys ws k l all next j h =
      by-test (ltb j l) (λ t. all j (ltb-true j l t))
      (λ t. let e : l ≡ j = omega (arith, ltb-false j l t) in subst (λ (i : ℕ). Behind tall climb y (shown_at ys ws (k + i))) e next)
