-- Floor and ceil against a whole number, case by case: of a fraction n / d, of an infinity; and the fractions on the far side of zero.
use Rattle.std.proofs.Common.{◌≡◌, ℕ, suc, ◌+◌, ◌-◌, ◌*◌, ◌/◌, ◌^◌, ◌<◌, ◌≤◌, min, true, false, not, ℤ, pos, negsuc, neg_ℤ, nat_abs, ◌≤ℤ◌, ◌<ℤ◌, sym, refl, ap, ◌∙◌, suc-mul, mul-le-mul_left, le-div_iff_mul-le, zero-mul, mul-one, arith, ltb→lt, leb→le, pow_pos, ltb-false, lt-ltb}
use lib.Signed.{le_z}
use lib.Ieee.{inf, fin, up, down, below, lt, le, eq}
use borrow.Author.Tests.{not-true}
use Rattle.ops.specs.Round.{lowest, highest, away}
use Rattle.ops.specs.Order.{exactly}
use Rattle.ops.proofs.Tests.{leb-ltb}
use Rattle.ops.proofs.Integers.{under-minus, minus-under, above-minus, minus-above, minus-lt, minus-le}
use Rattle.ops.proofs.Fractions.{away-le, away-le-back}
use Rattle.ops.proofs.Order.{is_neg, whole_le, le-whole}

module _ (h n d : ℕ) (p : 0 < d) where
  pub floor-pos : (z : ℤ) → z ≤ℤ highest h → le_z z (pos (min (n / d) (2 ^ h - 1))) ≡ not (below false n (is_neg z) (nat_abs z * d))
  floor-pos (pos k) l =
      leb-ltb k (min (n / d) (2 ^ h - 1)) n (k * d)
      (λ a. (le-div_iff_mul-le p).0 (omega arith))
      (λ a. let b : k ≤ n / d = (le-div_iff_mul-le p).1 a in omega (arith, leb→le k (2 ^ h - 1) l.le))
  floor-pos (negsuc k) l = refl

  pub floor-neg : (z : ℤ) → lowest h <ℤ z → le_z z (neg_ℤ (pos (min (away n d) (2 ^ h)))) ≡ not (below true n (is_neg z) (nat_abs z * d))
  floor-neg (pos k) l =
      under-minus (min (away n d) (2 ^ h)) k
      ∙ leb-ltb (k + min (away n d) (2 ^ h)) 0 0 (n + k * d)
      (λ a. let b : k ≡ 0 = omega arith in rw b (omega (arith, zero-mul d, pow_pos h, away-le-back n d 0 p (omega (arith, pow_pos h)))))
      (λ a. omega (arith, mul-le-mul_left k p, mul-one k, away-le n d 0 p (omega (arith, zero-mul d))))
  floor-neg (negsuc k) l =
      above-minus (min (away n d) (2 ^ h)) k
      ∙ leb-ltb (min (away n d) (2 ^ h)) (suc k) (suc k * d) n
      (λ a. away-le-back n d (suc k) p (omega (arith, minus-lt (2 ^ h) k l.lt)))
      (λ a. omega (arith, away-le n d (suc k) p a))

  pub ceil-pos : (z : ℤ) → z <ℤ highest h → le_z (pos (min (away n d) (2 ^ h - 1))) z ≡ not (below (is_neg z) (nat_abs z * d) false n)
  ceil-pos (pos k) l =
      leb-ltb (min (away n d) (2 ^ h - 1)) k (k * d) n
      (λ a. away-le-back n d k p (omega (arith, ltb→lt k (2 ^ h - 1) l.lt)))
      (λ a. omega (arith, away-le n d k p a))
  ceil-pos (negsuc k) l = ap not (sym (lt-ltb 0 (suc k * d + n) (omega (arith, suc-mul k d))))

  pub ceil-neg : (z : ℤ) → lowest h ≤ℤ z → le_z (neg_ℤ (pos (min (n / d) (2 ^ h)))) z ≡ not (below (is_neg z) (nat_abs z * d) true n)
  ceil-neg (pos k) l = minus-under (min (n / d) (2 ^ h)) k
  ceil-neg (negsuc k) l =
      minus-above (min (n / d) (2 ^ h)) k
      ∙ leb-ltb (suc k) (min (n / d) (2 ^ h)) n (suc k * d)
      (λ a. (le-div_iff_mul-le p).0 (omega arith))
      (λ a. let b : suc k ≤ n / d = (le-div_iff_mul-le p).1 a in omega (arith, minus-le (2 ^ h) k l.le))

-- ---- an infinity

pub under-high : (z : ℤ) → le (exactly z) (inf false) ≡ true
unfolding le lt
under-high (pos n) = refl
under-high (negsuc n) = refl

pub under_low : (z : ℤ) → le (exactly z) (inf true) ≡ false
unfolding le lt eq
under_low (pos n) = refl
under_low (negsuc n) = refl

pub high-under : (z : ℤ) → le (inf false) (exactly z) ≡ false
unfolding le lt eq
high-under (pos n) = refl
high-under (negsuc n) = refl

pub low-under : (z : ℤ) → le (inf true) (exactly z) ≡ true
unfolding le lt
low-under (pos n) = refl
low-under (negsuc n) = refl

-- ---- zero

pub not_negative : (m : ℕ) (e : ℤ) → le (exactly (pos 0)) (fin true m e) ≡ true → m * up e ≤ 0
not_negative m e p = omega (arith, ltb-false 0 (m * up e + 0 * down e) (not-true _ (sym (whole_le true m e (pos 0)) ∙ p)))

pub not-positive : (m : ℕ) (e : ℤ) → le (fin false m e) (exactly (pos 0)) ≡ true → m * up e ≤ 0
not-positive m e p = omega (arith, zero-mul (down e), ltb-false (0 * down e) (m * up e) (not-true _ (sym (le-whole false m e (pos 0)) ∙ p)))

-- ---- two whole numbers

pub exact-order : (a b : ℤ) → le_z a b ≡ le (exactly a) (exactly b)
exact-order (pos a) (pos b) =
    leb-ltb a b (b * 1) (a * 1) (λ h. omega (arith, mul-one a, mul-one b)) (λ h. omega (arith, mul-one a, mul-one b))
    ∙ sym (whole_le false b (pos 0) (pos a))
exact-order (pos a) (negsuc b) =
    ap not (sym (lt-ltb 0 (suc b * 1 + a * 1) (omega (arith, mul-one (suc b)))))
    ∙ sym (whole_le true (suc b) (pos 0) (pos a))
exact-order (negsuc a) (pos b) = sym (whole_le false b (pos 0) (negsuc a))
exact-order (negsuc a) (negsuc b) =
    leb-ltb b a (suc a * 1) (suc b * 1) (λ h. omega (arith, mul-one (suc a), mul-one (suc b))) (λ h. omega (arith, mul-one (suc a), mul-one (suc b)))
    ∙ sym (whole_le true (suc b) (pos 0) (negsuc a))
