-- Of the order of integers: -j against another, what lies in a signed range, and two numbers that every number between tells alike.
use Rattle.std.proofs.Common.{◌≡◌, ℕ, zero, suc, ◌+◌, ◌-◌, ◌^◌, ◌<◌, ◌≤◌, Bool, true, false, not, T, leb, ◌⊎◌, ℤ, pos, negsuc, neg_ℤ, ◌≤ℤ◌, ◌<ℤ◌, sym, refl, ap, ◌∙◌, subst, inl, inr, true≢false, add-zero, le_antisymm, arith, le→leb, ltb→lt, leb→le, le-leb, leb-true}
use lib.Dec.{leb-suc-suc}
use lib.Signed.{mag, le_z, lt_z, le_z_yes, lt_z_yes, lt_z_no, ≤ℤ_refl, clash_ℤ}
use borrow.Author.Tests.{lt-leb}
use Rattle.ops.specs.Round.{lowest, highest}

-- ---- -j

pub under-minus : (j k : ℕ) → le_z (pos k) (neg_ℤ (pos j)) ≡ leb (k + j) 0
under-minus zero k = rw (add-zero k)
under-minus (suc j) k = sym (lt-leb (k + suc j) 0 (omega arith))

pub minus-under : (j k : ℕ) → le_z (neg_ℤ (pos j)) (pos k) ≡ true
minus-under zero k = le-leb 0 k (omega arith)
minus-under (suc j) k = refl

pub above-minus : (j k : ℕ) → le_z (negsuc k) (neg_ℤ (pos j)) ≡ leb j (suc k)
above-minus zero k = sym (le-leb 0 (suc k) (omega arith))
above-minus (suc j) k = sym (leb-suc-suc j k)

pub minus-above : (j k : ℕ) → le_z (neg_ℤ (pos j)) (negsuc k) ≡ leb (suc k) j
minus-above zero k = sym (lt-leb (suc k) 0 (omega arith))
minus-above (suc j) k = sym (leb-suc-suc k j)

pub minus-lt : (j k : ℕ) → T (lt_z (neg_ℤ (pos j)) (negsuc k)) → suc k < j
minus-lt zero k l = absurd l
minus-lt (suc j) k l = omega (arith, ltb→lt k j l)

pub minus-le : (j k : ℕ) → T (le_z (neg_ℤ (pos j)) (negsuc k)) → suc k ≤ j
minus-le zero k l = absurd l
minus-le (suc j) k l = omega (arith, leb→le k j l)

-- ---- tests and facts

pub not-under : (a b : ℤ) → a <ℤ b → le_z b a ≡ false
not-under a b l = go (le_z b a) refl
  where
    go : (t : Bool) → le_z b a ≡ t → t ≡ false
    go true e = clash_ℤ l (le_z_yes (subst T (sym e) tt))
    go false e = refl

pub under : (a b : ℤ) → a ≤ℤ b → le_z a b ≡ true
under a b l = go (le_z a b) l.le
  where
    go : (t : Bool) → T t → t ≡ true
    go true h = refl
    go false h = absurd h

-- ---- a signed range

minus-least : (q k : ℕ) → suc k ≤ q → T (le_z (neg_ℤ (pos q)) (negsuc k))
minus-least zero k l = absurd (omega arith)
minus-least (suc q) k l = le→leb k q (omega arith)

pub in-range : (h : ℕ) (z : ℤ) → mag z < 2 ^ h → (lowest h ≤ℤ z) × (z ≤ℤ highest h)
in-range h (pos k) l = (le_z_yes (subst T (sym (minus-under (2 ^ h) k)) tt), le_z_yes (le→leb k (2 ^ h - 1) (omega arith)))
in-range h (negsuc k) l = (le_z_yes (minus-least (2 ^ h) k l), le_z_yes tt)

-- ---- two numbers of a range that every other tells alike are equal

antisym : (a b : ℤ) → le_z a b ≡ true → le_z b a ≡ true → a ≡ b
antisym (pos a) (pos b) h k = ap pos (le_antisymm (leb-true a b h) (leb-true b a k))
antisym (pos a) (negsuc b) h k = absurd (true≢false (sym h))
antisym (negsuc a) (pos b) h k = absurd (true≢false (sym k))
antisym (negsuc a) (negsuc b) h k = ap negsuc (le_antisymm (leb-true a b k) (leb-true b a h))

-- at an end of the range, or strictly inside
at-or-above : (a b : ℤ) → a ≤ℤ b → (a ≡ b) ⊎ (a <ℤ b)
at-or-above a b l = go (lt_z a b) refl
  where
    go : (t : Bool) → lt_z a b ≡ t → (a ≡ b) ⊎ (a <ℤ b)
    go true e = inr (lt_z_yes (subst T (sym e) tt))
    go false e = inl (antisym a b (under a b l) (under b a (lt_z_no (subst (λ (t : Bool). T (not t)) (sym e) tt))))

module _ (lo hi a b : ℤ) (a-low : lo ≤ℤ a) (a-high : a ≤ℤ hi) (b-low : lo ≤ℤ b) (b-high : b ≤ℤ hi) where
  -- by the numbers at most each
  pub same-below : ((z : ℤ) → lo <ℤ z → z ≤ℤ hi → le_z z a ≡ le_z z b) → a ≡ b
  same-below told = antisym a b (first (at-or-above lo a a-low)) (second (at-or-above lo b b-low))
    where
      first : (lo ≡ a) ⊎ (lo <ℤ a) → le_z a b ≡ true
      first (inl e) = subst (λ (z : ℤ). le_z z b ≡ true) e (under lo b b-low)
      first (inr l) = sym (told a l a-high) ∙ under a a (≤ℤ_refl a)

      second : (lo ≡ b) ⊎ (lo <ℤ b) → le_z b a ≡ true
      second (inl e) = subst (λ (z : ℤ). le_z z a ≡ true) e (under lo a a-low)
      second (inr l) = told b l b-high ∙ under b b (≤ℤ_refl b)

  -- by the numbers at least each
  pub same_above : ((z : ℤ) → lo ≤ℤ z → z <ℤ hi → le_z a z ≡ le_z b z) → a ≡ b
  same_above told = antisym a b (first (at-or-above b hi b-high)) (second (at-or-above a hi a-high))
    where
      first : (b ≡ hi) ⊎ (b <ℤ hi) → le_z a b ≡ true
      first (inl e) = subst (λ (z : ℤ). le_z a z ≡ true) (sym e) (under a hi a-high)
      first (inr l) = told b b-low l ∙ under b b (≤ℤ_refl b)

      second : (a ≡ hi) ⊎ (a <ℤ hi) → le_z b a ≡ true
      second (inl e) = subst (λ (z : ℤ). le_z b z ≡ true) (sym e) (under b hi b-high)
      second (inr l) = sym (told a a-low l) ∙ under a a (≤ℤ_refl a)
