-- The tests in front of a call that takes a mesh: what their answer tells, and the call that goes on from it.
use mathlib.Core.Path.{◌≡◌}
use mathlib.Core.Logic.{inr}
use mathlib.Core.Bool.{Bool, cond}
use mathlib.Core.List.{List}
use Prim.Native.Nat.{ℕ, ◌*◌, ◌≤◌}
use lib.ListN.{length, take, replicate}
use Rattle.std.specs.Prelude.{Result, Ok, Err}
use Rattle.replies.specs.Said.{Said}
use Rattle.grid.specs.declared.Grid.{Grid}
use Rattle.grid.specs.declared.sizes.Size.{Size}
use Rattle.grid.specs.Grid.{width, height, columns}
use Rattle.grid.proofs.Accepted.{accepted}
use Rattle.field.specs.Slots.{Slots, slots}
use Rattle.field.specs.Field.{Field, Held}
use Rattle.field.specs.Store.{Store, store, left}
use Rattle.field.specs.Inner.{Says}
use Rattle.field.specs.Carrying.{Meshed}
use Rattle.field.specs.Meshes.{Mesh, Shaped, Named, Builds, Takes, Given}
use Rattle.field.proofs.Admitting.{admits-past}
use Rattle.field.proofs.Taking.{served, mesh-refused, numbers-refused}
use Rattle.rerecast.specs.Answer.{refusal_says}
use Rattle.rerecast.specs.declared.Refusal.{Refusal}
use Rattle.rerecast.specs.declared.lent.Slots as lent
use Rattle.rerecast.specs.Lent.{slots_of}
use Rattle.rerecast.specs.Inner.{AdmitsCall}
use Rattle.rerecast.specs.MeshAdmission.{AdmitsNumbers, Passes, AdmitsMesh}
use Rattle.rerecast.specs.Rasterize.{Sides}
use Rattle.rerecast.proofs.Admitted.{with_size}
use Rattle.rerecast.proofs.GivenBack.{GivenBack, given-back}

-- ---- the tests one after another

module _ (g : Grid) (m : Mesh) (s : Store) (marks' : List ℕ) (shaped : Bool) (S : Says shaped (Shaped m)) (shortest : ℕ) (es : shortest ≡ cond shaped (length s.heads) 0) where
  -- refused by those of every call
  pub not-admitted : (q : Refusal) → AdmitsCall (Err q) g shortest s marks' → AdmitsMesh (Err q) g m s marks'
  not-admitted q A build = mesh-refused g m s shaped S shortest es build (left (refusal_says q) (store s.heads s.slots marks')) A

  -- past them, what those of the numbers say
  pub numbers-tested : (r : Result Unit Refusal) (size : Size) → AdmitsCall (Ok size) g shortest s marks' → AdmitsNumbers r m → AdmitsMesh (with_size size r) g m s marks'
  numbers-tested (Ok done) size A N =
      record {
        fine = A.0;
        wide = A.1.0.0;
        high = A.1.0.1;
        fits = A.1.1.fits.0;
        sound = A.1.1.sound;
        zeros = A.1.1.zeros;
        shaped = served g m s shaped S shortest es A.0 A.1.1.fits.1;
        named = N.0;
        inside = N.1;
      }
  numbers-tested (Err q) size A N =
      λ build.
      admits-past left g s (Takes (columns g) m build s) (left (refusal_says q) (store s.heads s.slots marks')) A.0 (A.1.1.fits.0, served g m s shaped S shortest es A.0 A.1.1.fits.1)
      A.1.1.sound
      (rw A.1.1.zeros (numbers-refused m (columns g) build s (refusal_says q) N))

-- ---- past all of them

module _ (w h : ℕ) (g : Grid) (m : Mesh) (s : Store) (marks' : List ℕ) (P : Passes w h g m s marks') where
  -- what a call may rely on
  pub mesh-relies : (Sides w h × (w * h ≤ length s.heads) × Shaped m × Named m) × Held (take (w * h) s.heads) s.slots
  mesh-relies =
      let a = accepted g P.fine in
      rw (P.wide, P.high)
      ((record { some-wide = a.wide; wide = a.wide-le; some-high = a.high; high = a.high_le; few = a.columns-le }, P.fits.fits.enough, P.shaped, P.named), P.sound)

  -- and what it made of the field
  pub mesh-made : (build : ℕ → ℕ → Field → Meshed) (said : Said) (heads' : List ℕ) (t' : Slots)
      → ((marks : List ℕ) → Builds (w * h) (build w h) (store s.heads s.slots marks) (left said (store heads' t' (replicate (length s.slots.nexts) 0))))
      → Given g m (build (width g) (height g)) s (left said (store heads' t' marks'))
  mesh-made build said heads' t' made =
      admits-past left g s (Takes (columns g) m (build (width g) (height g)) s) (left said (store heads' t' marks')) P.fine (P.fits, P.shaped) P.sound
      (inr (P.named, inr (P.inside, rw (P.zeros, ← P.wide, ← P.high) (made s.marks))))

  -- the same, where the slots are given back one by one
  pub mesh-left : (build : ℕ → ℕ → Field → Meshed) (said : Said) (heads' : List ℕ) (t' : lent.Slots) {free : ℕ} {fl ce ar nx : List ℕ} → GivenBack t' free fl ce ar nx
      → ((marks : List ℕ) → Builds (w * h) (build w h) (store s.heads s.slots marks) (left said (store heads' (slots_of t') (replicate (length s.slots.nexts) 0))))
      → Given g m (build (width g) (height g)) s (left said (store heads' (slots free fl ce ar nx) marks'))
  mesh-left build said heads' t' back made = rw (given-back t' back) (mesh-made build said heads' (slots_of t') made)
