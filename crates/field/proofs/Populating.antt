-- A mesh and then the filters: an ending tells whether all of the mesh was placed, and so whether the filters ran.
use mathlib.Core.Path.{◌≡◌, refl, ap}
use mathlib.Core.List.{[], ◌∷◌}
use Prim.Native.Nat.{ℕ}
use native.Mathlib.Omega.{arith}
use lib.ListN.{length}
use Rattle.replies.specs.Said.{Said, Value, say, just}
use Rattle.field.specs.Field.{Field}
use Rattle.field.specs.Carrying.{Meshed, placed, halted, says_of, leaves}
use Rattle.field.specs.Populate.{afterwards}

module _ (filter : Field → Field) where
  -- what says 0 was placed whole: a stop has values beside its number
  pub placed-filtered : (o : Meshed) → just 0 ≡ says_of o → (just 0 ≡ says_of (afterwards filter o)) × (leaves (afterwards filter o) ≡ filter (leaves o))
  placed-filtered (placed f) e = (refl, refl)
  placed-filtered (halted reply t made f) e = let z : ◌≡◌ {A = ℕ} 0 2 = ap (λ (k : Said). length k.values) e in absurd (omega (arith, z))

  -- what says a triangle and its insertions was stopped, and is left as it is
  pub halted-kept : (o : Meshed) (n : ℕ) (a b : Value) → say n (a ∷ b ∷ []) ≡ says_of o → afterwards filter o ≡ o
  halted-kept (placed f) n a b e = let z : ◌≡◌ {A = ℕ} 2 0 = ap (λ (k : Said). length k.values) e in absurd (omega (arith, z))
  halted-kept (halted reply t made f) n a b e = refl
