-- Past the grid's tests: too few entries, a place off the grid, and a column of it.
use Rattle.std.proofs.Common.{◌≡◌, ℕ, ◌+◌, ◌*◌, ◌<◌, ◌≤◌, inl, inr, refl, arith}
use Rattle.replies.specs.Said.{Said, just}
use Rattle.grid.specs.declared.Grid.{Grid}
use Rattle.grid.specs.declared.sizes.Size.{Size}
use Rattle.grid.specs.Grid.{width, height, columns}
use Rattle.grid.proofs.Accepted.{Accepted}
use Rattle.compact_reader.specs.Reading.{Reads, Stands}

module _ (g : Grid) (s : Size) (k : Accepted g × ((s.width ≡ width g) × (s.height ≡ height g))) (shortest x z : ℕ) where
  pub too_few : shortest < s.width * s.height → Reads g (columns g ≤ shortest) x z (λ (o : Said). ⊥) (just 4)
  too_few l =
      let few : shortest < columns g = rw (k.1.0, k.1.1) at l in
      inr (k.0.taken, inl (λ q. omega arith, refl))

  pub off_grid : s.width * s.height ≤ shortest → ((x < s.width) × (z < s.height) → ⊥)
      → Reads g (columns g ≤ shortest) x z (λ (o : Said). ⊥) (just 8)
  off_grid l o = inr (k.0.taken, inr (rw (k.1.0, k.1.1) at l, inl (rw (k.1.0, k.1.1) at o, refl)))

  pub stands : (i : ℕ) → s.width * s.height ≤ shortest
      → ((x < s.width) × (z < s.height)) × ((i ≡ x + z * s.width) × (i < s.width * s.height)) → Stands g shortest x z s i
  stands i l p =
      let at : ((x < width g) × (z < height g)) × ((i ≡ x + z * width g) × (i < columns g)) = rw (k.1.0, k.1.1) at p in
      record {
        taken = k.0.taken;
        wide = k.1.0;
        high = k.1.1;
        fits = rw (k.1.0, k.1.1) at l;
        at_x = at.0.0;
        at-z = at.0.1;
        number = at.1.0;
        inside = at.1.1;
      }
