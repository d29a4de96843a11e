-- What truncation, floor and ceil mean, told by the order of numbers alone (`le` of IEEE 754, `le_z` of the integers), for a range of h bits beside the sign.
use Rattle.std.proofs.Common.{◌≡◌, ℕ, ◌-◌, ◌*◌, ◌^◌, min, true, false, ℤ, pos, neg_ℤ, ◌≤ℤ◌, ◌<ℤ◌, sym, refl, ap, ◌∙◌, true≢false}
use lib.Signed.{le_z}
use lib.Ieee.{Float, nan, inf, fin, up, down, le, is_nan, to_signed}
use lib.Ieee.Casts.{to_signed_in}
use lib.Ieee.Fits.{down_pos}
use Rattle.ops.specs.Round.{lowest, highest, floor_to, ceil_to}
use Rattle.ops.specs.Order.{exactly}
use Rattle.ops.proofs.Integers.{under, not-under, in-range, same-below, same_above}
use Rattle.ops.proofs.Fractions.{nothing_left}
use Rattle.ops.proofs.Order.{whole_le, le-whole}
use Rattle.ops.proofs.Galois.{floor-pos, floor-neg, ceil-pos, ceil-neg, under-high, under_low, high-under, low-under, not_negative, not-positive, exact-order}
use Rattle.ops.proofs.Rounding.{floor-in, ceil-in}

-- A whole number as a float keeps its place among the others.
pub exactly-order : (a b : ℤ) → le_z a b ≡ le (exactly a) (exactly b)
exactly-order a b = exact-order a b

-- The floor is the greatest whole number that is not above x, held to the range: a number of the range is at most the floor exactly where it is at most x.
-- (The lowest is at most every result, whatever x is.)
pub floor-meaning : (h : ℕ) (x : Float) (z : ℤ) → is_nan x ≡ false → lowest h <ℤ z → z ≤ℤ highest h → le_z z (floor_to h x) ≡ le (exactly z) x
unfolding floor_to is_nan
floor-meaning h nan z p a b = absurd (true≢false p)
floor-meaning h (inf true) z p a b = not-under (lowest h) z a ∙ sym (under_low z)
floor-meaning h (inf false) z p a b = under z (highest h) b ∙ sym (under-high z)
floor-meaning h (fin true m e) z p a b = floor-neg h (m * up e) (down e) (down_pos e) z a ∙ sym (whole_le true m e z)
floor-meaning h (fin false m e) z p a b = floor-pos h (m * up e) (down e) (down_pos e) z b ∙ sym (whole_le false m e z)

-- The ceiling is the least whole number that is not below x, held to the range.
pub ceil-meaning : (h : ℕ) (x : Float) (z : ℤ) → is_nan x ≡ false → lowest h ≤ℤ z → z <ℤ highest h → le_z (ceil_to h x) z ≡ le x (exactly z)
unfolding ceil_to is_nan
ceil-meaning h nan z p a b = absurd (true≢false p)
ceil-meaning h (inf true) z p a b = under (lowest h) z a ∙ sym (low-under z)
ceil-meaning h (inf false) z p a b = not-under z (highest h) b ∙ sym (high-under z)
ceil-meaning h (fin true m e) z p a b = ceil-neg h (m * up e) (down e) (down_pos e) z a ∙ sym (le-whole true m e z)
ceil-meaning h (fin false m e) z p a b = ceil-pos h (m * up e) (down e) (down_pos e) z b ∙ sym (le-whole false m e z)

-- All three are in the range.
pub truncation-range : (h : ℕ) (x : Float) → (lowest h ≤ℤ to_signed h x) × (to_signed h x ≤ℤ highest h)
truncation-range h x = in-range h (to_signed h x) (to_signed_in h x)

pub floor-range : (h : ℕ) (x : Float) → (lowest h ≤ℤ floor_to h x) × (floor_to h x ≤ℤ highest h)
floor-range h x = in-range h (floor_to h x) (floor-in h x)

pub ceil-range : (h : ℕ) (x : Float) → (lowest h ≤ℤ ceil_to h x) × (ceil_to h x ≤ℤ highest h)
ceil-range h x = in-range h (ceil_to h x) (ceil-in h x)

-- No other number of the range has that meaning.
pub floor-only : (h : ℕ) (x : Float) (n : ℤ) → is_nan x ≡ false → lowest h ≤ℤ n → n ≤ℤ highest h
    → ((z : ℤ) → lowest h <ℤ z → z ≤ℤ highest h → le_z z n ≡ le (exactly z) x)
    → n ≡ floor_to h x
floor-only h x n p low high told =
    let r = floor-range h x in
    same-below (lowest h) (highest h) n (floor_to h x) low high r.0 r.1 (λ z a b. told z a b ∙ sym (floor-meaning h x z p a b))

pub ceil-only : (h : ℕ) (x : Float) (n : ℤ) → is_nan x ≡ false → lowest h ≤ℤ n → n ≤ℤ highest h
    → ((z : ℤ) → lowest h ≤ℤ z → z <ℤ highest h → le_z n z ≡ le x (exactly z))
    → n ≡ ceil_to h x
ceil-only h x n p low high told =
    let r = ceil-range h x in
    same_above (lowest h) (highest h) n (ceil_to h x) low high r.0 r.1 (λ z a b. told z a b ∙ sym (ceil-meaning h x z p a b))

-- Truncation is the floor of a number that is not below zero, and the ceiling of one that is not above it.
pub truncation-up : (h : ℕ) (x : Float) → le (exactly (pos 0)) x ≡ true → to_signed h x ≡ floor_to h x
unfolding to_signed floor_to
truncation-up h nan p = refl
truncation-up h (inf true) p = refl
truncation-up h (inf false) p = refl
truncation-up h (fin true m e) p = ap (λ (n : ℕ). neg_ℤ (pos (min n (2 ^ h)))) (nothing_left (m * up e) (down e) (down_pos e) (not_negative m e p))
truncation-up h (fin false m e) p = refl

pub truncation-down : (h : ℕ) (x : Float) → le x (exactly (pos 0)) ≡ true → to_signed h x ≡ ceil_to h x
unfolding to_signed ceil_to
truncation-down h nan p = refl
truncation-down h (inf true) p = refl
truncation-down h (inf false) p = refl
truncation-down h (fin true m e) p = refl
truncation-down h (fin false m e) p = ap (λ (n : ℕ). pos (min n (2 ^ h - 1))) (nothing_left (m * up e) (down e) (down_pos e) (not-positive m e p))

-- NaN gives 0.
pub truncation-nan : (h : ℕ) → to_signed h nan ≡ pos 0
unfolding to_signed
truncation-nan h = refl

pub floor-nan : (h : ℕ) → floor_to h nan ≡ pos 0
unfolding floor_to
floor-nan h = refl

pub ceil-nan : (h : ℕ) → ceil_to h nan ≡ pos 0
unfolding ceil_to
ceil-nan h = refl
