-- Of a fraction n / d: the whole number at or above it, beside its whole part.
use Rattle.std.proofs.Common.{◌≡◌, ℕ, suc, ◌+◌, ◌-◌, ◌*◌, ◌/◌, ◌<◌, ◌≤◌, sym, refl, le_trans, le_of_eq, mul-le-mul_right, suc-mul, div-lt_iff_lt-mul, le_antisymm, one-mul, le-div_iff_mul-le, zero-mul, mul_right_comm, div-mul-le_self, le_of_mul-le-mul_right, arith}
use native.Mathlib.Nat.{lt-div-mul-add}
use Rattle.ops.specs.Round.{away}

pub away-ge : (n d : ℕ) → 0 < d → n / d ≤ away n d
away-ge n d p = (le-div_iff_mul-le p).1 (omega (arith, div-mul-le_self n d))

-- the number at or above the fraction is at most k exactly where the fraction is
pub away-le : (n d k : ℕ) → 0 < d → n ≤ k * d → away n d ≤ k
away-le n d k p h = below_next ((div-lt_iff_lt-mul p).1 (omega (arith, suc-mul k d)))
  where
    below_next : {a : ℕ} → a < suc k → a ≤ k
    below_next h = omega arith

pub away-le-back : (n d k : ℕ) → 0 < d → away n d ≤ k → n ≤ k * d
away-le-back n d k p h = omega (arith, mul-le-mul_right d h, lt-div-mul-add {a = n + (d - 1)} p)

pub nothing_left : (n d : ℕ) → 0 < d → n ≤ 0 → n / d ≡ away n d
nothing_left n d p h = omega (arith, away-ge n d p, away-le n d 0 p (omega (arith, zero-mul d)))

-- above zero and at most 1, it is 1
pub away-one : (n d : ℕ) → 0 < n → n ≤ d → away n d ≡ 1
away-one n d a b =
    le_antisymm (away-le n d 1 (omega arith) (omega (arith, one-mul d)))
    ((le-div_iff_mul-le (omega arith)).1 (omega (arith, one-mul d)))

-- it is the same for an equal fraction
away-under : (a b c d : ℕ) → 0 < b → 0 < d → a * d ≡ c * b → away a b ≤ away c d
away-under a b c d B D same =
    let k = away c d in
    away-le a b k B
    (le_of_mul-le-mul_right
    (le_trans (le_of_eq same) (le_trans (mul-le-mul_right b (away-le-back c d k D (le_of_eq refl))) (le_of_eq (mul_right_comm k d b))))
    D)

pub away-same : (a b c d : ℕ) → 0 < b → 0 < d → a * d ≡ c * b → away a b ≡ away c d
away-same a b c d B D same = le_antisymm (away-under a b c d B D same) (away-under c d a b D B (sym same))
