-- What a call gives back, z, where it is the number n and fits an `i32`: as the caller reads it, and taken from 0.
use Rattle.std.proofs.Common.{◌≡◌, ℕ, zero, suc, ◌^◌, ◌<◌, ◌≤◌, ℤ, pos, ◌-ℤ◌, neg_ℤ, sym, ap, ◌∙◌, subst, le_of_lt, pow_pos, w32, SFits, to_z, of_z}
use lib.IntN.{+ℤ_idl}
use lib.Signed.{mag}
use mir.ValLaws.{to_z-of_z}

pub minus-in : (k q : ℕ) → 0 < q → k ≤ q → mag (neg_ℤ (pos k)) < q
minus-in zero q p l = p
minus-in (suc k) q p l = l

module _ {z : ℤ} {n : ℕ} (is : z ≡ pos n) (ok : mag z < 2 ^ 31) where
  pub small : n < 2 ^ 31
  small = subst (λ (k : ℤ). mag k < 2 ^ 31) is ok

  pub given : to_z w32 (of_z w32 z) ≡ pos n
  given = to_z-of_z w32 z (record { sfits = ok }) ∙ is

  taken : pos 0 -ℤ to_z w32 (of_z w32 z) ≡ neg_ℤ (pos n)
  taken = ap (λ (k : ℤ). pos 0 -ℤ k) given ∙ +ℤ_idl (neg_ℤ (pos n))

  pub minus-fits : SFits w32 (pos 0 -ℤ to_z w32 (of_z w32 z))
  minus-fits = subst (λ (k : ℤ). SFits w32 k) (sym taken) (record { sfits = minus-in n (2 ^ 31) (pow_pos 31) (le_of_lt small) })

  pub minus_is : to_z w32 (of_z w32 (pos 0 -ℤ to_z w32 (of_z w32 z))) ≡ neg_ℤ (pos n)
  minus_is = to_z-of_z w32 _ minus-fits ∙ taken
