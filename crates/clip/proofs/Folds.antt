-- Of numbers put together from the first on: what none come to, and what the first and the rest come to.
use mathlib.Core.Path.{◌≡◌, refl}
use mathlib.Core.List.{List, [], ◌∷◌, map, foldl}
use Prim.Native.Nat.{ℕ, ◌≤◌}
use native.Mathlib.Omega.{arith}
use lib.Ieee.{Float}
use lib.ListN.{length, take}
use lib.Seq.{take-length}
use Rattle.grid.specs.declared.Corner.{Corner}
use Rattle.clip.specs.Cut.{nought}
use Rattle.clip.specs.Slices.{together}

module _ (choice : Float → Float → Float) (read : Corner → Float) where
  pub together-none : (vs : List Corner) → length vs ≡ 0 → nought ≡ together choice (map read vs)
  unfolding together
  together-none [] h = refl
  together-none (v ∷ vs) h = absurd (omega (arith, h))

  pub together-all : (vs : List Corner) (v : Corner) (rest : List Corner) → vs ≡ v ∷ rest → (i : ℕ) → i ≤ length rest → length rest ≤ i → {y : Float} → y ≡ read v
      → foldl choice y (map read (take i rest)) ≡ together choice (map read vs)
  unfolding together
  together-all vs v rest e i h k f =
      let n : i ≡ length rest = omega arith in
      rw (e, f, n, take-length rest)
