-- What the tests of a float against 1, against 2 ^ h and against 0 say of its fraction; and tests of a float as tests of its negation.
use Rattle.std.proofs.Common.{◌≡◌, ℕ, ◌+◌, ◌*◌, ◌^◌, ◌<◌, ◌≤◌, Bool, true, false, not, ltb, ℤ, pos, sym, refl, ap, ◌∙◌, true≢false, add_comm, mul-pos, one-mul, zero-mul, arith, pow_pos, ltb-false, ltb-true}
use lib.Ieee.{Float, nan, inf, fin, up, down, below, lt, le, neg, is_nan}
use lib.Ieee.Fits.{down_pos}
use borrow.Author.Tests.{not-true, not-false}
use Rattle.ops.specs.Order.{exactly}
use Rattle.ops.proofs.Order.{le_total, lt-whole, whole-lt, exactly-value}

-- the float 2 ^ h; 1 is `most 0`
abbrev pub most : ℕ → Float
most h = fin false 1 (pos h)

abbrev pub nought : Float
nought = exactly (pos 0)

-- ---- against 2 ^ h

module _ (h : ℕ) (s : Bool) (m : ℕ) (e : ℤ) where
  lt_most : lt (fin s m e) (most h) ≡ below s (m * up e) false (2 ^ h * down e)
  lt_most = lt-whole s m e (most h) false (2 ^ h) (refl, rw (one-mul (2 ^ h)))

  most-le : le (most h) (fin s m e) ≡ not (below s (m * up e) false (2 ^ h * down e))
  unfolding is_nan
  most-le = le_total (most h) (fin s m e) refl refl ∙ ap not lt_most

module _ (h m : ℕ) (e : ℤ) where
  pub under-most : lt (fin false m e) (most h) ≡ true → m * up e < 2 ^ h * down e
  under-most a = ltb-true (m * up e) (2 ^ h * down e) (sym (lt_most h false m e) ∙ a)

  pub beyond-most : lt (fin false m e) (most h) ≡ false → 2 ^ h * down e ≤ m * up e
  beyond-most a = ltb-false (m * up e) (2 ^ h * down e) (sym (lt_most h false m e) ∙ a)

  pub at_least : le (most h) (fin false m e) ≡ true → 2 ^ h * down e ≤ m * up e
  at_least a = ltb-false (m * up e) (2 ^ h * down e) (not-true _ (sym (most-le h false m e) ∙ a))

  pub not-at-least : le (most h) (fin false m e) ≡ false → m * up e < 2 ^ h * down e
  not-at-least a = ltb-true (m * up e) (2 ^ h * down e) (not-false _ (sym (most-le h false m e) ∙ a))

  pub not_negative : le (most h) (fin true m e) ≡ true → ⊥
  not_negative a =
      omega (arith, mul-pos (pow_pos h) (down_pos e), ltb-false 0 (m * up e + 2 ^ h * down e) (not-true _ (sym (most-le h true m e) ∙ a)))

-- ---- against 0

module _ (m : ℕ) (e : ℤ) where
  below-nought : (s : Bool) → lt (fin s m e) nought ≡ below s (m * up e) false (0 * down e)
  below-nought s = lt-whole s m e nought false 0 (exactly-value (pos 0))

  nought-below : (s : Bool) → lt nought (fin s m e) ≡ below false (0 * down e) s (m * up e)
  nought-below s = whole-lt s m e nought false 0 (exactly-value (pos 0))

  pub some_below : lt (fin true m e) nought ≡ true → 0 < m * up e
  some_below a = omega (arith, zero-mul (down e), ltb-true 0 (m * up e + 0 * down e) (sym (below-nought true) ∙ a))

  pub none_below : lt (fin true m e) nought ≡ false → m * up e ≤ 0
  none_below a = omega (arith, ltb-false 0 (m * up e + 0 * down e) (sym (below-nought true) ∙ a))

  pub not-below : lt (fin false m e) nought ≡ true → ⊥
  not-below a = omega (arith, zero-mul (down e), ltb-true (m * up e) (0 * down e) (sym (below-nought false) ∙ a))

  pub some-above : lt nought (fin false m e) ≡ true → 0 < m * up e
  some-above a = omega (arith, ltb-true (0 * down e) (m * up e) (sym (nought-below false) ∙ a))

  pub none_above : lt nought (fin false m e) ≡ false → m * up e ≤ 0
  none_above a = omega (arith, zero-mul (down e), ltb-false (0 * down e) (m * up e) (sym (nought-below false) ∙ a))

  pub not-above : lt nought (fin true m e) ≡ true → ⊥
  not-above a = true≢false (sym a ∙ nought-below true)

-- ---- a test of a float is one of its negation

below-flips : (s t : Bool) (a b : ℕ) → below (not s) a t b ≡ below (not t) b s a
below-flips false false a b = ap (λ (n : ℕ). ltb 0 n) (add_comm a b)
below-flips false true a b = refl
below-flips true false a b = refl
below-flips true true a b = refl

pub lt-flips : (x y : Float) → lt (neg x) y ≡ lt (neg y) x
unfolding lt neg
lt-flips nan nan = refl
lt-flips nan (inf t) = refl
lt-flips nan (fin t n d) = refl
lt-flips (inf s) nan = refl
lt-flips (inf false) (inf false) = refl
lt-flips (inf false) (inf true) = refl
lt-flips (inf true) (inf false) = refl
lt-flips (inf true) (inf true) = refl
lt-flips (inf s) (fin t n d) = refl
lt-flips (fin s m e) nan = refl
lt-flips (fin s m e) (inf t) = refl
lt-flips (fin s m e) (fin t n d) = below-flips s t (m * up e * down d) (n * up d * down e)

neg-number : (x : Float) → is_nan (neg x) ≡ is_nan x
unfolding neg is_nan
neg-number nan = refl
neg-number (inf s) = refl
neg-number (fin s m e) = refl

below-number : (x : Float) → lt x nought ≡ true → is_nan x ≡ false
unfolding is_nan lt
below-number nan a = absurd (true≢false (sym a))
below-number (inf s) a = refl
below-number (fin s m e) a = refl

-- at most -1: below 0, and not above -1
pub at_most_minus_one : (x : Float) → lt x nought ≡ true → lt (neg (most 0)) x ≡ false → le (most 0) (neg x) ≡ true
unfolding is_nan
at_most_minus_one x a b = le_total (most 0) (neg x) refl (neg-number x ∙ below-number x a) ∙ ap not (sym (lt-flips (most 0) x) ∙ b)
