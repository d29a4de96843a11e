-- The area of a span after the filter for low obstacles, by the tests that find it.
use mathlib.Core.Path.{◌≡◌, refl}
use mathlib.Core.Logic.{◌≢◌}
use mathlib.Core.Bool.{true, false, and-false}
use mathlib.Core.List.{List, [], ◌∷◌}
use Prim.Native.Nat.{ℕ, ◌+◌}
use borrow.Author.Tests.{ne_eqb}
use lib.Dec.{leb}
use Rattle.field.specs.declared.Span.{Span}
use Rattle.field.specs.FilterCode.{Beneath}
use Rattle.field.specs.Filters.{raised}

pub raised-walkable : (climb : ℕ) (below : List Span) (s : Span) → s.area ≢ 0 → s.area ≡ raised climb below s
raised-walkable climb [] s a = refl
raised-walkable climb (b ∷ below) s a = rw (ne_eqb s.area 0 a)

module _ (climb base ground : ℕ) (below : List Span) (s : Span) (a : s.area ≡ 0) where
  pub raised-bare : Beneath base ground below → ground ≡ 0 → 0 ≡ raised climb below s
  raised-bare u g = go below u
    where
      go : (below : List Span) → Beneath base ground below → 0 ≡ raised climb below s
      go [] u = rw a
      go (b ∷ below) u = rw (a, u.1, g)

  pub raised-up : Beneath base ground below → ground ≢ 0 → leb s.ceiling (base + climb) ≡ true → ground ≡ raised climb below s
  raised-up u g l = go below u
    where
      go : (below : List Span) → Beneath base ground below → ground ≡ raised climb below s
      go [] u = absurd (g u)
      go (b ∷ below) u = rw (a, u.0, u.1, ne_eqb ground 0 g, l)

  pub raised-far : Beneath base ground below → leb s.ceiling (base + climb) ≡ false → 0 ≡ raised climb below s
  raised-far u l = go below u
    where
      go : (below : List Span) → Beneath base ground below → 0 ≡ raised climb below s
      go [] u = rw a
      go (b ∷ below) u = rw (a, u.0, u.1, l, and-false)
