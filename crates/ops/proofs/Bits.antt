-- The bit pattern of an `f32` x that is at least 1 and below 2 ^ 31: its exponent's field says how far to shift its digits, with the leading one put back, and the shifted digits are x in units of 2 ^ -23.
-- (`std::num` is proved in the same way for an `f64`.)
use Rattle.std.proofs.Common.{◌≡◌, ℕ, zero, suc, ◌+◌, ◌-◌, ◌*◌, ◌/◌, ◌%◌, ◌^◌, ◌<◌, ◌≤◌, Bool, true, false, cond, T, eqb, leb, sym, refl, ap, ◌∙◌, subst, true≢false, le_trans, le_of_eq, lt_of_lt_of_le, le-add_right, lt_of_le_of_lt, lt_irrefl, mul-le-mul_right, mod-lt, mod-eq_of_lt, mul_assoc, mul_comm, mul-le-mul, lt_of_mul-lt-mul_right, mul-lt-mul_of_pos_right, one-mul, lt_of_not-le, mul_right_comm, le_of_mul-le-mul_right, arith, lit≤, lt→ltb, pow_pos, pow_mono, pow-add, shl_lt, shl_exact, leb-false}
use native.Mathlib.Nat.{eq_of_mul-eq-mul_right}
use lib.Bits.{bit_and, bit_or, and_mask, or_shifted_r}
use lib.Ieee.{Float, nan, inf, fin, binary32, up, down, odd, fits, of_fields, of_bits, to_bits, lt, eq, le}
use lib.Ieee.Fits.{down_pos}
use lib.Ieee.Bits.{of_bits-to_bits, to_bits-lt}
use lib.Ieee.Exact.{HasValue, odd_sign}
use lib.Ieee.Positive.{num, den, positive, den_pos, first_pos}
use Rattle.ops.proofs.Limits.{most, at_least, under-most, not_negative}

-- ---- such an x is finite and above zero, and its fraction is between the bounds

abbrev Within : Float → Type 0
Within x = T (positive x) × (den x ≤ num x) × (num x < 2 ^ 31 * den x)

within : (x : Float) → le (most 0) x ≡ true → lt x (most 31) ≡ true → Within x
unfolding le lt eq
within nan a b = absurd (true≢false (sym a))
within (inf true) a b = absurd (true≢false (sym a))
within (inf false) a b = absurd (true≢false (sym b))
within (fin true m e) a b = absurd (not_negative 0 m e a)
within (fin false m e) a b =
    let l : down e ≤ m * up e = subst (λ (k : ℕ). k ≤ m * up e) (one-mul (down e)) (at_least 0 m e a) in
    (lt→ltb 0 m (first_pos m (up e) (lt_of_lt_of_le (down_pos e) l)), l, under-most 31 m e b)

-- ---- what a pattern's fields are read as

-- the sign is clear, the field is j + 1, and the value is the digits under a leading one, times 2 ^ j units of 2 ^ -149
abbrev Read : Bool → ℕ → ℕ → Float → Type 0
Read s f t v = (j : ℕ) × (f ≡ suc j) × (s ≡ false) × (num v * 2 ^ 149 ≡ (2 ^ 23 + t) * 2 ^ j * den v)

sign_of : (v : Float) (s : Bool) (a c : ℕ) → T (positive v) → HasValue v s a c → (s ≡ false) × (num v * c ≡ a * den v)
sign_of nan s a c p h = absurd p
sign_of (inf t) s a c p h = absurd p
sign_of (fin true m e) s a c p h = absurd p
sign_of (fin false m e) s a c p h = (sym h.0, h.1)

-- n / d is a / l: in units of 1 / l
module _ {n d a l : ℕ} (D : 0 < d) (v : n * l ≡ a * d) where
  units_ge : d ≤ n → l ≤ a
  units_ge h = le_of_mul-le-mul_right (le_trans (le_of_eq (mul_comm l d)) (le_trans (mul-le-mul_right l h) (le_of_eq v))) D

  units_lt : (p : ℕ) → 0 < l → n < p * d → a < p * l
  units_lt p L h =
      lt_of_mul-lt-mul_right d
      (lt_of_le_of_lt (le_of_eq (sym v)) (lt_of_lt_of_le (mul-lt-mul_of_pos_right h L) (le_of_eq (mul_right_comm p d l))))

-- with a field of 0 it is below 1
short : (t : ℕ) → t < 2 ^ 23 → 2 ^ 149 ≤ t * 2 ^ 0 → ⊥
short t h k =
    let l : 23 + 0 ≤ 149 = lit≤ tt in
    lt_irrefl (2 ^ 149) (lt_of_le_of_lt k (lt_of_lt_of_le (shl_lt 23 0 h) (pow_mono l)))

-- a field of all ones is an infinity's or a NaN's
past_top : (a b s : Bool) (v : Float) → T (positive (cond a (cond b (inf s) nan) v)) → cond a (cond b (inf s) nan) v ≡ v
past_top true true s v p = absurd p
past_top true false s v p = absurd p
past_top false b s v p = refl

read : (s : Bool) (f t : ℕ) → t < 2 ^ 23 → T (positive (of_fields binary32 s f t)) → den (of_fields binary32 s f t) ≤ num (of_fields binary32 s f t) → Read s f t (of_fields binary32 s f t)
unfolding of_fields
read s zero t h p g =
    let v = odd 24 s t 0 149 in
    absurd (short t h (units_ge (den_pos v) (sign_of v s (t * 2 ^ 0) (2 ^ 149) p (odd_sign 24 s t 0 149)).1 g))
read s (suc j) t h p g =
    let v = odd 24 s (2 ^ 23 + t) j 149 in
    let is = past_top (eqb (suc j) 255) (eqb t 0) s v p in
    let r = sign_of v s ((2 ^ 23 + t) * 2 ^ j) (2 ^ 149) (subst (λ (k : Float). T (positive k)) is p) (odd_sign 24 s (2 ^ 23 + t) j 149) in
    (j, refl, r.0, subst (λ (k : Float). num k * 2 ^ 149 ≡ (2 ^ 23 + t) * 2 ^ j * den k) (sym is) r.1)

-- ---- the pattern b of such an x

abbrev Shape : ℕ → Float → Type 0
Shape b x = (j : ℕ) × (b / 2 ^ 23 ≡ suc j) × (126 ≤ j) × (j < 157) × (num x * 2 ^ 149 ≡ (2 ^ 23 + b % 2 ^ 23) * 2 ^ j * den x)

pow_lt_back : (i p : ℕ) → 2 ^ i < 2 ^ p → i < p
pow_lt_back i p h = lt_of_not-le (λ (g : p ≤ i). lt_irrefl (2 ^ i) (lt_of_lt_of_le h (pow_mono g)))

with_lead : (t : ℕ) → t < 2 ^ 23 → 2 ^ 23 + t < 2 ^ 24
with_lead t h = omega arith

lower : (j : ℕ) → 149 < 24 + j → 126 ≤ j
lower j h = omega arith

upper : (j : ℕ) → 23 + j < 180 → j < 157
upper j h = omega arith

of_bits_is : (b : ℕ) → of_bits binary32 b ≡ of_fields binary32 (leb (2 ^ 31) b) (b % 2 ^ 31 / 2 ^ 23) (b % 2 ^ 23)
unfolding of_bits
of_bits_is b = refl

shape_of : (b : ℕ) → Within (of_bits binary32 b) → Shape b (of_bits binary32 b)
shape_of b i =
    let x = of_bits binary32 b in
    let s = leb (2 ^ 31) b in
    let f = b % 2 ^ 31 / 2 ^ 23 in
    let t = b % 2 ^ 23 in
    let q = 2 ^ 23 + t in
    let T23 : t < 2 ^ 23 = mod-lt b (pow_pos 23) in
    let k : Within (of_fields binary32 s f t) = subst Within (of_bits_is b) i in
    let r : Read s f t x = subst (λ (v : Float). Read s f t v) (sym (of_bits_is b)) (read s f t T23 k.0 k.1) in
    let j = r.0 in
    let small : b < 2 ^ 31 = leb-false (2 ^ 31) b r.2 in
    let lo : 2 ^ 149 ≤ q * 2 ^ j = units_ge (den_pos x) r.3 i.1 in
    let hi : q * 2 ^ j < 2 ^ 31 * 2 ^ 149 = units_lt (den_pos x) r.3 (2 ^ 31) (pow_pos 149) i.2 in (
      j,
      ap (λ (k : ℕ). k / 2 ^ 23) (sym (mod-eq_of_lt small)) ∙ r.1,
      lower j (pow_lt_back 149 (24 + j) (lt_of_le_of_lt lo (shl_lt 24 j (with_lead t T23)))),
      upper j (pow_lt_back (23 + j) 180 (lt_of_le_of_lt (le_trans (le_of_eq (pow-add 2 23 j)) (mul-le-mul_right (2 ^ j) (le-add_right (2 ^ 23) t))) hi)),
      r.3,
    )

-- ---- the body's arithmetic

digits_are : (b : ℕ) → bit_or (bit_and b (2 ^ 23 - 1)) (2 ^ 23) ≡ 2 ^ 23 + b % 2 ^ 23
digits_are b = ap (λ (k : ℕ). bit_or k (2 ^ 23)) (and_mask b 23) ∙ or_shifted_r 1 23 (b % 2 ^ 23) (mod-lt b (pow_pos 23))

-- from units of 2 ^ -149 to units of 2 ^ -23
rescaled : (n d q i : ℕ) → n * 2 ^ 149 ≡ q * 2 ^ (i + 126) * d → n * 2 ^ 23 ≡ q * 2 ^ i * d
rescaled n d q i h =
    eq_of_mul-eq-mul_right (2 ^ 126) (pow_pos 126) (n * 2 ^ 23) (q * 2 ^ i * d)
    (mul_assoc n (2 ^ 23) (2 ^ 126)
    ∙ h
    ∙ ap (λ (k : ℕ). q * k * d) (pow-add 2 i 126)
    ∙ ap (λ (k : ℕ). k * d) (sym (mul_assoc q (2 ^ i) (2 ^ 126)))
    ∙ mul_right_comm (q * 2 ^ i) (2 ^ 126) d)

under-room : (q i : ℕ) → q < 2 ^ 24 → i ≤ 30 → q * 2 ^ i + 2 ^ 30 ≤ 2 ^ 54
under-room q i h k = omega (arith, mul-le-mul below (pow_mono k))
  where
    below : q ≤ 16777215
    below = omega arith

-- the body of `scaled`, of a pattern b
abbrev shifted_of : ℕ → ℕ
shifted_of b = bit_or (bit_and b (2 ^ 23 - 1)) (2 ^ 23) * 2 ^ (b / 2 ^ 23 - 127) % 2 ^ 64

-- ---- what the proof of `scaled` cites, of x and its pattern b

module _ (x : Float) (F : T (fits binary32 x)) (a : le (most 0) x ≡ true) (c : lt x (most 31) ≡ true) where
  abbrev b : ℕ
  b = to_bits binary32 x

  shape : Shape b x
  shape =
      subst (λ (k : Float). Shape b k) (of_bits-to_bits binary32 x F)
      (shape_of b (subst Within (sym (of_bits-to_bits binary32 x F)) (within x a c)))

  pub bits_fit : b < 2 ^ 64
  bits_fit = lt_of_lt_of_le (to_bits-lt binary32 x F) (lit≤ tt)

  pub at_one : 127 ≤ b / 2 ^ 23
  at_one = omega (arith, shape.1, shape.2)

  shift_small : b / 2 ^ 23 - 127 ≤ 30
  shift_small = omega (arith, shape.1, shape.3)

  pub shift : b / 2 ^ 23 - 127 < 64
  shift = omega (arith, shift_small)

  lead : 2 ^ 23 + b % 2 ^ 23 < 2 ^ 24
  lead = with_lead (b % 2 ^ 23) (mod-lt b (pow_pos 23))

  shifted : shifted_of b ≡ (2 ^ 23 + b % 2 ^ 23) * 2 ^ (b / 2 ^ 23 - 127)
  shifted =
      ap (λ (k : ℕ). k * 2 ^ (b / 2 ^ 23 - 127) % 2 ^ 64) (digits_are b)
      ∙ shl_exact 24 (b / 2 ^ 23 - 127) 64 lead (omega (arith, shift_small))

  pub exact : num x * 2 ^ 23 ≡ shifted_of b * den x
  exact =
      let up_to : shape.0 ≡ b / 2 ^ 23 - 127 + 126 = omega (arith, shape.1, shape.2) in
      rescaled (num x) (den x) (2 ^ 23 + b % 2 ^ 23) (b / 2 ^ 23 - 127)
      (subst (λ (k : ℕ). num x * 2 ^ 149 ≡ (2 ^ 23 + b % 2 ^ 23) * 2 ^ k * den x) up_to shape.4)
      ∙ ap (λ (k : ℕ). k * den x) (sym shifted)

  pub room : shifted_of b + 2 ^ 30 ≤ 2 ^ 54
  room = subst (λ (k : ℕ). k + 2 ^ 30 ≤ 2 ^ 54) (sym shifted) (under-room (2 ^ 23 + b % 2 ^ 23) (b / 2 ^ 23 - 127) lead shift_small)
