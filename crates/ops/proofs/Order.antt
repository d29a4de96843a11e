-- Two floats, neither of them NaN, are in one order or the other; and a float against a whole number is its fraction's size against that number's.
use Rattle.std.proofs.Common.{◌≡◌, ℕ, suc, ◌+◌, ◌*◌, ◌<◌, ◌≤◌, Bool, true, false, not, ◌&&◌, ◌||◌, eqb, ltb, ℤ, pos, negsuc, nat_abs, sym, refl, ap, ◌∙◌, true≢false, mul-le-mul_right, add-mul, mul-lt-mul_of_pos_right, zero-mul, mul-one, mul_right_comm, arith, ltb-false, ltb-true, le-ltb, lt-ltb, eq-eqb, eqb-true}
use lib.Ieee.{Float, nan, inf, fin, up, down, below, level, lt, le, eq, is_nan}
use lib.Ieee.Exact.{HasValue}
use lib.Ieee.Fits.{down_pos}
use borrow.Author.Tests.{eqb-false}
use Rattle.ops.specs.Order.{exactly}
use Rattle.ops.proofs.Tests.{both}

-- ---- the order is total

-- with one sign; e says whether the sizes are equal
like : (a b : ℕ) (e : Bool) → (e ≡ true → a ≡ b) → (e ≡ false → a ≡ b → ⊥) → ltb a b || (e && true) ≡ not (ltb b a)
like a b e f g = go (ltb a b) e refl f g
  where
    go : (l e : Bool) → ltb a b ≡ l → (e ≡ true → a ≡ b) → (e ≡ false → a ≡ b → ⊥) → l || (e && true) ≡ not (ltb b a)
    go true e p f g = ap not (sym (le-ltb b a (omega (arith, ltb-true a b p))))
    go false true p f g = ap not (sym (le-ltb b a (omega (arith, f refl))))
    go false false p f g = ap not (sym (lt-ltb b a (omega (arith, ltb-false a b p, g refl))))

-- with two: equal only where both are zero
zeros : (a b : ℕ) → a + b ≤ 0 → eqb a b && eqb a 0 ≡ true
zeros a b h = rw (eq-eqb a b (omega arith), eq-eqb a 0 (omega arith))

unlike : (a b : ℕ) → eqb a b && eqb a 0 ≡ not (ltb 0 (b + a))
unlike a b = go (ltb 0 (b + a)) (eqb a b && eqb a 0) refl refl
  where
    go : (l e : Bool) → ltb 0 (b + a) ≡ l → eqb a b && eqb a 0 ≡ e → e ≡ not l
    go true true p q = let z = both (eqb a b) (eqb a 0) q in absurd (omega (arith, ltb-true 0 (b + a) p, eqb-true a b z.0, eqb-true a 0 z.1))
    go true false p q = refl
    go false e p q = sym q ∙ zeros a b (omega (arith, ltb-false 0 (b + a) p))

-- ±a is at most ±b where ±b is not below ±a
signed-total : (s t : Bool) (a b : ℕ) → below s a t b || level s a t b ≡ not (below t b s a)
signed-total false false a b = like a b (eqb a b) (eqb-true a b) (eqb-false a b)
signed-total false true a b = unlike a b
signed-total true false a b = go (ltb 0 (a + b)) refl
  where
    go : (l : Bool) → ltb 0 (a + b) ≡ l → l || (eqb a b && eqb a 0) ≡ true
    go true p = refl
    go false p = zeros a b (ltb-false 0 (a + b) p)
signed-total true true a b = like b a (eqb a b) (λ h. sym (eqb-true a b h)) (λ h q. eqb-false a b h (sym q))

pub le_total : (x y : Float) → is_nan x ≡ false → is_nan y ≡ false → le x y ≡ not (lt y x)
unfolding le lt eq is_nan
le_total nan y p q = absurd (true≢false p)
le_total (inf s) nan p q = absurd (true≢false q)
le_total (inf true) (inf true) p q = refl
le_total (inf true) (inf false) p q = refl
le_total (inf false) (inf true) p q = refl
le_total (inf false) (inf false) p q = refl
le_total (inf true) (fin t n d) p q = refl
le_total (inf false) (fin t n d) p q = refl
le_total (fin s m e) nan p q = absurd (true≢false q)
le_total (fin s m e) (inf true) p q = refl
le_total (fin s m e) (inf false) p q = refl
le_total (fin s m e) (fin t n d) p q = signed-total s t (m * up e * down d) (n * up d * down e)

-- ---- a float that is ±n, a whole number, against a fraction

scale-lt : (a b c : ℕ) → 0 < c → ltb (a * c) (b * c) ≡ ltb a b
scale-lt a b c p = go (ltb a b) refl
  where
    go : (t : Bool) → ltb a b ≡ t → ltb (a * c) (b * c) ≡ t
    go true h = lt-ltb (a * c) (b * c) (mul-lt-mul_of_pos_right (ltb-true a b h) p)
    go false h = le-ltb (a * c) (b * c) (mul-le-mul_right c (ltb-false a b h))

scale : (s t : Bool) (a b c : ℕ) → 0 < c → below s (a * c) t (b * c) ≡ below s a t b
scale false false a b c p = scale-lt a b c p
scale false true a b c p = refl
scale true false a b c p = rw (← (add-mul a b c)) (ap (λ (z : ℕ). ltb z ((a + b) * c)) (sym (zero-mul c)) ∙ scale-lt 0 (a + b) c p)
scale true true a b c p = scale-lt b a c p

swap : (a b c f : ℕ) → a * 1 ≡ c * f → a * b ≡ c * b * f
swap a b c f q = ap (λ (z : ℕ). z * b) (sym (mul-one a) ∙ q) ∙ mul_right_comm c f b

module _ (s : Bool) (m : ℕ) (e : ℤ) where
  pub lt-whole : (y : Float) (t : Bool) (n : ℕ) → HasValue y t n 1 → lt (fin s m e) y ≡ below s (m * up e) t (n * down e)
  unfolding lt
  lt-whole nan t n h = absurd h
  lt-whole (inf u) t n h = absurd h
  lt-whole (fin u k d) t n h = rw (h.0, swap (k * up d) (down e) n (down d) h.1) (scale s t (m * up e) (n * down e) (down d) (down_pos d))

  pub whole-lt : (y : Float) (t : Bool) (n : ℕ) → HasValue y t n 1 → lt y (fin s m e) ≡ below t (n * down e) s (m * up e)
  unfolding lt
  whole-lt nan t n h = absurd h
  whole-lt (inf u) t n h = absurd h
  whole-lt (fin u k d) t n h = rw (h.0, swap (k * up d) (down e) n (down d) h.1) (scale t s (n * down e) (m * up e) (down d) (down_pos d))

-- ---- whole numbers as floats

abbrev pub is_neg : ℤ → Bool
is_neg (pos n) = false
is_neg (negsuc n) = true

pub exactly-value : (z : ℤ) → HasValue (exactly z) (is_neg z) (nat_abs z) 1
exactly-value (pos n) = (refl, mul-one (n * 1))
exactly-value (negsuc n) = (refl, mul-one (suc n * 1))

pub number : (z : ℤ) → is_nan (exactly z) ≡ false
unfolding is_nan
number (pos n) = refl
number (negsuc n) = refl

-- at most, either way round
module _ (s : Bool) (m : ℕ) (e : ℤ) (z : ℤ) where
  pub whole_le : le (exactly z) (fin s m e) ≡ not (below s (m * up e) (is_neg z) (nat_abs z * down e))
  unfolding is_nan
  whole_le = le_total (exactly z) (fin s m e) (number z) refl ∙ ap not (lt-whole s m e (exactly z) (is_neg z) (nat_abs z) (exactly-value z))

  pub le-whole : le (fin s m e) (exactly z) ≡ not (below (is_neg z) (nat_abs z * down e) s (m * up e))
  unfolding is_nan
  le-whole = le_total (fin s m e) (exactly z) refl (number z) ∙ ap not (whole-lt s m e (exactly z) (is_neg z) (nat_abs z) (exactly-value z))
