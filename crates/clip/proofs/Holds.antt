-- Of a number held to low..high.
use mathlib.Core.Path.{◌≡◌, refl, ap}
use mathlib.Core.Bool.{true, false, true≢false}
use Prim.Native.Nat.{ℕ, ◌≤◌, ◌<◌, min, max}
use native.Mathlib.Omega.{arith}
use lib.IntN.{ℤ, pos, negsuc, nat_abs}
use lib.Signed.{lt_z, mag}
use borrow.Author.Tests.{ltb-true}
use Rattle.std.specs.Int.{FitsUnsignedBits}
use Rattle.clip.specs.Slices.{held_to, held_first}

module _ (low high : ℕ) where
  -- a number that is not negative, and one that is
  pub held_fit : (z : ℤ) → FitsUnsignedBits 32 z → max low (min (nat_abs z) high) ≡ held_to low high z
  unfolding held_to
  held_fit (pos n) h = refl
  held_fit (negsuc n) h = absurd h

  pub held-unfit : (z : ℤ) → mag z < 2147483648 → (FitsUnsignedBits 32 z → ⊥) → low ≡ held_to low high z
  unfolding held_to
  held-unfit (pos n) r h = absurd (h (omega arith))
  held-unfit (negsuc n) r h = refl

  pub held-le : (z : ℤ) → low ≤ high → held_to low high z ≤ high
  unfolding held_to
  held-le (pos n) h = omega arith
  held-le (negsuc n) h = h

  pub held-ge : (z : ℤ) → low ≤ held_to low high z
  unfolding held_to
  held-ge (pos n) = omega arith
  held-ge (negsuc n) = omega arith

-- ---- the first row or column
pub first_below : (last : ℕ) (z : ℤ) → lt_z z (pos 0) ≡ true → negsuc 0 ≡ held_first last z
unfolding held_first
first_below last (pos n) h = absurd (omega (arith, ltb-true n 0 h))
first_below last (negsuc n) h = refl

pub first-inside : (last : ℕ) (z : ℤ) → lt_z z (pos 0) ≡ false → pos (held_to 0 last z) ≡ held_first last z
unfolding held_to held_first
first-inside last (pos n) h =
    let e : max 0 (min n last) ≡ min n last = omega arith in
    ap pos e
first-inside last (negsuc n) h = absurd (true≢false h)

pub first-fit : (last : ℕ) (z : ℤ) → FitsUnsignedBits 32 z → pos (min (nat_abs z) last) ≡ held_first last z
unfolding held_first
first-fit last (pos n) h = refl
first-fit last (negsuc n) h = absurd h

pub first-unfit : (last : ℕ) (z : ℤ) → mag z < 2147483648 → (FitsUnsignedBits 32 z → ⊥) → negsuc 0 ≡ held_first last z
unfolding held_first
first-unfit last (pos n) r h = absurd (h (omega arith))
first-unfit last (negsuc n) r h = refl

pub nat_abs_le : (z : ℤ) → mag z < 2147483648 → FitsUnsignedBits 32 z → nat_abs z < 2147483648
nat_abs_le (pos n) r h = omega arith
nat_abs_le (negsuc n) r h = absurd h

-- a number of 32 bits stays one
pub held_fits : (last : ℕ) (z : ℤ) → mag z < 2147483648 → held_to 0 last z < 2147483648
unfolding held_to
held_fits last (pos n) h = omega arith
held_fits last (negsuc n) h = omega arith
