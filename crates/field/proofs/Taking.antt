-- A mesh offered to a sound field: what its tests say, and what its triangles leave in terms of the whole store.
use mathlib.Core.Path.{◌≡◌, refl, ap, subst, ◌∙◌}
use mathlib.Core.Logic.{inl, inr}
use mathlib.Core.Bool.{Bool, cond}
use mathlib.Core.List.{List, [], ◌++◌, append-nil}
use Prim.Native.Nat.{ℕ, ◌*◌, ◌<◌, ◌≤◌}
use native.Mathlib.Nat.{mul-pos}
use native.Mathlib.Omega.{arith}
use lib.ListN.{length, take, drop, replicate}
use lib.Seq.{length-take-le, take_at, drop_at}
use Rattle.replies.specs.Said.{Said, just, Asks}
use Rattle.grid.specs.declared.Grid.{Grid}
use Rattle.grid.specs.Grid.{columns, grid_says}
use Rattle.grid.proofs.Accepted.{accepted}
use Rattle.field.specs.Slots.{Slots}
use Rattle.field.specs.Field.{Field, Holds, Held}
use Rattle.field.specs.Store.{Store, store, Fitting, Sound, cleared, Outcome, left, Admits}
use Rattle.field.specs.Inner.{Says}
use Rattle.field.specs.Carrying.{Meshed, says_of, leaves}
use Rattle.field.specs.Meshes.{Mesh, Shaped, Named, vertices_say, Builds, Takes, Given}
use Rattle.field.proofs.Basics.{by-test}

-- ---- a mesh past its own tests

module _ (w h : ℕ) (heads : List ℕ) (t : Slots) (enough : w * h ≤ length heads) (held : Held (take (w * h) heads) t) {n : ℕ} (en : n ≡ w * h) where
  pub first-heads : length (take n heads) ≡ w * h
  first-heads = length-take-le n heads (omega arith) ∙ en

  -- the first heads hold the field
  pub first-held : Held (take n heads) t
  first-held = rw en held

  -- with no others behind them
  pub mesh-ready : (others : List ℕ) × Held (take n heads ++ others) t
  mesh-ready = ([], rw (append-nil (take n heads), en) held)

  pub mesh-built : (build : Field → Meshed) (marks : List ℕ) (said : Said) (part : List ℕ) (t' : Slots) → length part ≡ length (take n heads)
      → ((k : Field) → Holds (take n heads) t k → (said ≡ says_of (build k)) × Holds part t' (leaves (build k)))
      → Builds (w * h) build (store heads t marks) (left said (store (part ++ drop n heads) t' (replicate (length t.nexts) 0)))
  mesh-built build marks said part t' size came =
      let k = came held.0 (rw en held.1) in (
        held.0,
        held.1,
        record {
          says = k.0;
          holds = rw (take_at part (drop n heads) (w * h) (size ∙ first-heads)) k.1;
          beyond = rw (en, drop_at part (drop (w * h) heads) (w * h) (size ∙ first-heads));
          marks = refl;
        },
      )

-- ---- the tests of every call, with those of the mesh's shape among them

-- an accepted grid has a column
pub some-columns : (g : Grid) → (grid_says g).number ≡ 0 → 0 < columns g
some-columns g e = let a = accepted g e in mul-pos a.wide a.high

-- Code asks for as many heads as there are, or for none where the mesh has not its shape: then no grid is small enough.
module _ (g : Grid) (m : Mesh) (s : Store) (shaped : Bool) (S : Says shaped (Shaped m)) (shortest : ℕ) (es : shortest ≡ cond shaped (length s.heads) 0) where
  pub served : (grid_says g).number ≡ 0 → columns g ≤ shortest → Shaped m
  served e h = by-test shaped (λ q. subst (λ (b : Bool). Says b (Shaped m)) q S) (λ q. absurd (omega (arith, some-columns g e, h, es ∙ ap (λ (b : Bool). cond b (length s.heads) 0) q)))

  serves : Fitting (columns g) s → Shaped m → columns g ≤ shortest
  serves fit p =
      by-test shaped (λ q. omega (arith, fit.fits.enough, es ∙ ap (λ (b : Bool). cond b (length s.heads) 0) q))
      (λ q. absurd (subst (λ (b : Bool). Says b (Shaped m)) q S p))

  module _ (build : Field → Meshed) (o : Outcome) where
    abbrev Next : Outcome → Type 0
    Next = Takes (columns g) m build s

    unsound : Asks (Sound (columns g) s) (left (just 14) (cleared s)) (λ o. ⊥) o → Asks (Sound (columns g) s) (left (just 14) (cleared s)) Next o
    unsound (inl a) = inl a
    unsound (inr a) = absurd a.1

    unfit : (grid_says g).number ≡ 0 → Asks (Fitting (columns g) s × (columns g ≤ shortest)) (left (just 4) s) (Asks (Sound (columns g) s) (left (just 14) (cleared s)) (λ o. ⊥)) o
        → Asks (Fitting (columns g) s × Shaped m) (left (just 4) s) (Asks (Sound (columns g) s) (left (just 14) (cleared s)) Next) o
    unfit e (inl a) = inl (λ f. a.0 (f.0, serves f.0 f.1), a.1)
    unfit e (inr a) = inr ((a.0.0, served e a.0.1), unsound a.1)

    -- refused by one of them
    pub mesh-refused : Admits left g (Fitting (columns g) s × (columns g ≤ shortest)) s (λ o. ⊥) o → Given g m build s o
    mesh-refused (inl a) = inl a
    mesh-refused (inr a) = inr (a.0, unfit a.0 a.1)

-- ---- the tests of the mesh's numbers

module _ (m : Mesh) (n : ℕ) (build : Field → Meshed) (s : Store) (said : Said) where
  outside : Asks ((vertices_say m).number ≡ 0) (vertices_say m) (λ o. ⊥) said → Asks ((vertices_say m).number ≡ 0) (left (vertices_say m) (cleared s)) (Builds n build s) (left said (cleared s))
  outside (inl a) = inl (a.0, ap (λ (k : Said). left k (cleared s)) a.1)
  outside (inr a) = absurd a.1

  -- refused by one of them
  pub numbers-refused : Asks (Named m) (just 10) (Asks ((vertices_say m).number ≡ 0) (vertices_say m) (λ o. ⊥)) said → Takes n m build s (left said (cleared s))
  numbers-refused (inl a) = inl (a.0, ap (λ (k : Said). left k (cleared s)) a.1)
  numbers-refused (inr a) = inr (a.0, outside a.1)
