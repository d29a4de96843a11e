-- Rounding by the tests of x against 0, 1 and 2 ^ h, whichever way a fraction of either sign goes; truncation, floor and ceil are three of these.
use Rattle.std.proofs.Common.{◌≡◌, ℕ, ◌*◌, ◌/◌, ◌^◌, ◌<◌, ◌≤◌, min, Bool, true, false, cond, ◌⊎◌, inl, inr, ℤ, pos, negsuc, neg_ℤ, sym, refl, ap, ◌∙◌, subst, true≢false, le_trans, le_refl, one-mul, le-div_iff_mul-le, arith, pow_pos, pow_mono}
use native.Mathlib.Nat.{div-eq_of_lt}
use lib.Signed.{mag}
use lib.Ieee.{Float, nan, inf, fin, up, down, lt, le, eq, neg, to_signed}
use lib.Ieee.Positive.{num, den}
use lib.Ieee.Fits.{down_pos}
use Rattle.ops.specs.Round.{held, end_of, toward, away, fraction, rounded_to, floor_to, ceil_to}
use Rattle.ops.proofs.Fractions.{away-ge, away-le, away-one}
use Rattle.ops.proofs.Given.{minus-in}
use Rattle.ops.proofs.Limits.{most, nought, under-most, beyond-most, not-at-least, not_negative, some_below, none_below, not-below, some-above, none_above, not-above}

pub truncation_is : (h : ℕ) (x : Float) → to_signed h x ≡ rounded_to h false false x
unfolding to_signed rounded_to
truncation_is h nan = refl
truncation_is h (inf true) = refl
truncation_is h (inf false) = refl
truncation_is h (fin true m e) = refl
truncation_is h (fin false m e) = refl

pub floor_is : (h : ℕ) (x : Float) → floor_to h x ≡ rounded_to h false true x
unfolding floor_to rounded_to
floor_is h nan = refl
floor_is h (inf s) = refl
floor_is h (fin true m e) = refl
floor_is h (fin false m e) = refl

pub ceil_is : (h : ℕ) (x : Float) → ceil_to h x ≡ rounded_to h true false x
unfolding ceil_to rounded_to
ceil_is h nan = refl
ceil_is h (inf s) = refl
ceil_is h (fin true m e) = refl
ceil_is h (fin false m e) = refl

-- ---- from 1 on, for y and for its negation

abbrev pub signed : Bool → Float → Float
signed true y = neg y
signed false y = y

abbrev pub with_sign : Bool → ℕ → ℤ
with_sign true n = neg_ℤ (pos n)
with_sign false n = pos n

signed-twice : (s : Bool) (x : Float) → signed s (signed s x) ≡ x
unfolding neg
signed-twice false x = refl
signed-twice true nan = refl
signed-twice true (inf true) = refl
signed-twice true (inf false) = refl
signed-twice true (fin true m e) = refl
signed-twice true (fin false m e) = refl

-- neither way leaves less than the whole part
whole-part : (f : Bool) (n d : ℕ) → 0 < d → n / d ≤ fraction f n d
whole-part true n d p = away-ge n d p
whole-part false n d p = le_refl (n / d)

-- away from zero or not, by the sign
abbrev pub by_sign : Bool → Bool → Bool → Bool
by_sign above below s = cond s below above

module _ (h : ℕ) (above below : Bool) where
  held_whole : (s : Bool) (n : ℕ) → n < 2 ^ h → with_sign s n ≡ held h s n
  held_whole true n l = let whole : n ≡ min n (2 ^ h) = omega arith in ap (λ (k : ℕ). neg_ℤ (pos k)) whole
  held_whole false n l = ap pos (omega arith)

  held-end : (s : Bool) (n : ℕ) → 2 ^ h ≤ n → end_of h s ≡ held h s n
  held-end true n l = let cut : 2 ^ h ≡ min n (2 ^ h) = omega arith in ap (λ (k : ℕ). neg_ℤ (pos k)) cut
  held-end false n l = ap pos (omega arith)

  -- a fraction that is at least 2 ^ h is so rounded either way
  reaches : (f : Bool) (m : ℕ) (e : ℤ) → lt (fin false m e) (most h) ≡ false → 2 ^ h ≤ fraction f (m * up e) (down e)
  reaches f m e b = le_trans ((le-div_iff_mul-le (down_pos e)).1 (beyond-most h m e b)) (whole-part f (m * up e) (down e) (down_pos e))

  -- below 2 ^ h the fraction is rounded and no more
  inside_of : (s : Bool) (y : Float) → le (most 0) y ≡ true → lt y (most h) ≡ true → fraction (by_sign above below s) (num y) (den y) < 2 ^ h
      → with_sign s (fraction (by_sign above below s) (num y) (den y)) ≡ rounded_to h above below (signed s y)
  unfolding rounded_to le lt eq neg
  inside_of s nan a b l = absurd (true≢false (sym a))
  inside_of s (inf true) a b l = absurd (true≢false (sym a))
  inside_of s (inf false) a b l = absurd (true≢false (sym b))
  inside_of s (fin true m e) a b l = absurd (not_negative 0 m e a)
  inside_of true (fin false m e) a b l = held_whole true _ l
  inside_of false (fin false m e) a b l = held_whole false _ l

  -- from 2 ^ h on it is the end of the range
  outside_of : (s : Bool) (y : Float) → le (most 0) y ≡ true → lt y (most h) ≡ false → end_of h s ≡ rounded_to h above below (signed s y)
  unfolding rounded_to le lt eq neg
  outside_of s nan a b = absurd (true≢false (sym a))
  outside_of s (inf true) a b = absurd (true≢false (sym a))
  outside_of true (inf false) a b = refl
  outside_of false (inf false) a b = refl
  outside_of s (fin true m e) a b = absurd (not_negative 0 m e a)
  outside_of true (fin false m e) a b = held-end true _ (reaches below m e b)
  outside_of false (fin false m e) a b = held-end false _ (reaches above m e b)

  -- the same, of x
  pub inside : (s : Bool) (x : Float) → le (most 0) (signed s x) ≡ true → lt (signed s x) (most h) ≡ true
      → fraction (by_sign above below s) (num (signed s x)) (den (signed s x)) < 2 ^ h
      → with_sign s (fraction (by_sign above below s) (num (signed s x)) (den (signed s x))) ≡ rounded_to h above below x
  inside s x a b l = inside_of s (signed s x) a b l ∙ ap (rounded_to h above below) (signed-twice s x)

  pub outside : (s : Bool) (x : Float) → le (most 0) (signed s x) ≡ true → lt (signed s x) (most h) ≡ false → end_of h s ≡ rounded_to h above below x
  outside s x a b = outside_of s (signed s x) a b ∙ ap (rounded_to h above below) (signed-twice s x)

-- ---- between -1 and 1

held-zero : (h : ℕ) (s : Bool) (n : ℕ) → n ≡ 0 → pos 0 ≡ held h s n
held-zero h true n z = let none : 0 ≡ min n (2 ^ h) = omega arith in ap (λ (k : ℕ). neg_ℤ (pos k)) none
held-zero h false n z = ap pos (omega arith)

module _ (m : ℕ) (e : ℤ) where
  -- below 1 the whole part is 0
  cut : m * up e < 2 ^ 0 * down e → toward (m * up e) (down e) ≡ 0
  cut a = div-eq_of_lt (subst (λ (k : ℕ). m * up e < k) (one-mul (down e)) a)

  -- above 0 and not above 1, what is at or above it is 1
  filled : 0 < m * up e → m * up e < 2 ^ 0 * down e → away (m * up e) (down e) ≡ 1
  filled a b = away-one (m * up e) (down e) a (omega (arith, one-mul (down e)))

  -- of 0 it is 0 either way
  none : (f : Bool) → m * up e ≤ 0 → fraction f (m * up e) (down e) ≡ 0
  none true a = omega (arith, away-le (m * up e) (down e) 0 (down_pos e) (omega arith))
  none false a = cut (omega (arith, one-mul (down e), down_pos e))

module _ (h : ℕ) where
  pub one-above : 1 ≤ h → (below : Bool) (x : Float) → le (most 0) x ≡ false → lt nought x ≡ true → pos 1 ≡ rounded_to h true below x
  unfolding rounded_to le lt eq
  one-above l below nan a b = absurd (true≢false (sym b))
  one-above l below (inf true) a b = absurd (true≢false (sym b))
  one-above l below (inf false) a b = absurd (true≢false a)
  one-above l below (fin true m e) a b = absurd (not-above m e b)
  one-above l below (fin false m e) a b = ap pos (omega (arith, pow_mono l, filled m e (some-above m e b) (not-at-least 0 m e a)))

  pub one_below : (above : Bool) (x : Float) → lt x nought ≡ true → lt (neg x) (most 0) ≡ true → negsuc 0 ≡ rounded_to h above true x
  unfolding rounded_to lt neg
  one_below above nan a b = absurd (true≢false (sym a))
  one_below above (inf true) a b = absurd (true≢false (sym b))
  one_below above (inf false) a b = absurd (true≢false (sym a))
  one_below above (fin true m e) a b =
      let one : 1 ≡ min (away (m * up e) (down e)) (2 ^ h) = omega (arith, pow_pos h, filled m e (some_below m e a) (under-most 0 m e b)) in
      ap (λ (k : ℕ). neg_ℤ (pos k)) one
  one_below above (fin false m e) a b = absurd (not-below m e a)

  pub zero_below : (above : Bool) (x : Float) → lt x nought ≡ true → lt (neg x) (most 0) ≡ true → pos 0 ≡ rounded_to h above false x
  unfolding rounded_to lt neg
  zero_below above nan a b = refl
  zero_below above (inf true) a b = absurd (true≢false (sym b))
  zero_below above (inf false) a b = absurd (true≢false (sym a))
  zero_below above (fin true m e) a b = held-zero h true _ (cut m e (under-most 0 m e b))
  zero_below above (fin false m e) a b = absurd (not-below m e a)

  -- no number, 0, or one above 0 that goes toward it
  pub zero-above : (above below : Bool) (x : Float) → le (most 0) x ≡ false → lt x nought ≡ false
      → (above ≡ false) ⊎ (lt nought x ≡ false) → pos 0 ≡ rounded_to h above below x
  unfolding rounded_to le lt eq
  zero-above above below nan a b p = refl
  zero-above above below (inf true) a b p = absurd (true≢false b)
  zero-above above below (inf false) a b p = absurd (true≢false a)
  zero-above above below (fin true m e) a b p = held-zero h true _ (none m e below (none_below m e b))
  zero-above above below (fin false m e) a b (inl p) = held-zero h false _ (rw p (cut m e (not-at-least 0 m e a)))
  zero-above above below (fin false m e) a b (inr p) = held-zero h false _ (none m e above (none_above m e p))

-- ---- both are in the range

module _ (h : ℕ) where
  held_in : (s : Bool) (n : ℕ) → mag (held h s n) < 2 ^ h
  held_in true n = minus-in (min n (2 ^ h)) (2 ^ h) (pow_pos h) (omega arith)
  held_in false n = omega (arith, pow_pos h)

  end-in : (s : Bool) → mag (end_of h s) < 2 ^ h
  end-in true = minus-in (2 ^ h) (2 ^ h) (pow_pos h) (omega arith)
  end-in false = omega (arith, pow_pos h)

  pub floor-in : (x : Float) → mag (floor_to h x) < 2 ^ h
  unfolding floor_to
  floor-in nan = pow_pos h
  floor-in (inf s) = end-in s
  floor-in (fin true m e) = held_in true (away (m * up e) (down e))
  floor-in (fin false m e) = held_in false (m * up e / down e)

  pub ceil-in : (x : Float) → mag (ceil_to h x) < 2 ^ h
  unfolding ceil_to
  ceil-in nan = pow_pos h
  ceil-in (inf s) = end-in s
  ceil-in (fin true m e) = held_in true (m * up e / down e)
  ceil-in (fin false m e) = held_in false (away (m * up e) (down e))
