-- Why a mesh stops with 5: the insertion that comes next, on the field that the mesh leaves, finds no slot.
use mathlib.Core.Path.{◌≡◌, refl, ap, subst, ◌∙◌}
use mathlib.Core.Logic.{◌⊎◌, inl, inr}
use mathlib.Core.Bool.{false}
use mathlib.Core.List.{List, [], ◌∷◌}
use Prim.Native.Nat.{ℕ, zero, suc, ◌+◌, ◌*◌}
use native.Mathlib.Omega.{arith}
use lib.ListN.{drop}
use Rattle.clip.specs.Work.{Event, insert as offer, stop}
use Rattle.clip.proofs.Works.{Proper}
use Rattle.field.specs.declared.Span.{Span}
use Rattle.field.specs.Field.{Field, insert}
use Rattle.field.specs.Carrying.{Carried, went, stopped, Meshed, placed, halted, Work, carry, onward, carry_mesh}
use Rattle.field.proofs.Basics.{by-test}

-- what a triangle's work came to: the reply of its stop (0 for none), the insertions made, the field
abbrev reply_of : Carried → ℕ
reply_of (went m f) = 0
reply_of (stopped reply m f) = reply

abbrev made_of : Carried → ℕ
made_of (went m f) = m
made_of (stopped reply m f) = m

abbrev field_of : Carried → Field
field_of (went m f) = f
field_of (stopped reply m f) = f

-- the same of a mesh, with the triangle
abbrev mesh_reply : Meshed → ℕ
mesh_reply (placed f) = 0
mesh_reply (halted reply t m f) = reply

abbrev mesh_triangle : Meshed → ℕ
mesh_triangle (placed f) = 0
mesh_triangle (halted reply t m f) = t

abbrev mesh_made : Meshed → ℕ
mesh_made (placed f) = 0
mesh_made (halted reply t m f) = m

abbrev mesh_field : Meshed → Field
mesh_field (placed f) = f
mesh_field (halted reply t m f) = f

module _ (w h th : ℕ) where
  -- the first of these events is an insertion that is refused
  abbrev pub Refused : ℕ → Field → List Event → Type 0
  Refused area f [] = ⊥
  Refused area f (stop reply ∷ es) = ⊥
  Refused area f (offer x z floor ceiling ∷ es) = (insert th f (x + z * w) (record { floor = floor; ceiling = ceiling; area = area })).accepted ≡ false

  carry-refused : (area made : ℕ) (es : List Event) (f : Field) → Proper w h es → (m : ℕ) (g : Field) → carry w th area made f es ≡ stopped 5 m g → (k : ℕ) × (m ≡ made + k) × Refused area g (drop k es)
  unfolding carry
  carry-refused area made [] f p m g e = let z : ◌≡◌ {A = ℕ} 0 5 = ap reply_of e in absurd (omega (arith, z))
  carry-refused area made (stop reply ∷ es) f p m g e = absurd (not_five p.0)
    where
      five : reply ≡ 5
      five = ap reply_of e

      not_five : (reply ≡ 6) ⊎ (reply ≡ 7) → ⊥
      not_five (inl q) = omega (arith, five, q)
      not_five (inr q) = omega (arith, five, q)
  carry-refused area made (offer x z floor ceiling ∷ es) f p m g e =
      let new : Span = record { floor = floor; ceiling = ceiling; area = area } in
      let c = x + z * w in
      by-test (insert th f c new).accepted
      (λ yes. let k = carry-refused area (made + 1) es (insert th f c new).field p.1 m g (rw yes at e) in (suc k.0, omega (arith, k.1), k.2))
      (λ no.
      let q : stopped 5 made f ≡ stopped 5 m g = rw no at e in
      (0, omega (arith, ap made_of q), subst (λ (k : Field). (insert th k c new).accepted ≡ false) (ap field_of q) no))

  module _ (works : ℕ → Work) (proper : (t : ℕ) → Proper w h (works t).events) where
    next-refused : (count t : ℕ) (f : Field) (c : Carried) → carry w th (works t).area 0 f (works t).events ≡ c
        → ((g : Field) (t' m : ℕ) (g' : Field) → carry_mesh w th works count (suc t) 0 g ≡ halted 5 t' m g' → Refused (works t').area g' (drop m (works t').events))
        → (t' m : ℕ) (g' : Field) → onward w th c t (λ g. carry_mesh w th works count (suc t) 0 g) ≡ halted 5 t' m g' → Refused (works t').area g' (drop m (works t').events)
    next-refused count t f (went n g) q go t' m g' e = go g t' m g' e
    next-refused count t f (stopped reply n g) q go t' m g' e =
        let same : stopped reply n g ≡ stopped 5 m g' = λ i. stopped (ap mesh_reply e i) (ap mesh_made e i) (ap mesh_field e i) in
        let k = carry-refused (works t).area 0 (works t).events f (proper t) m g' (q ∙ same) in
        let n' : k.0 ≡ m = omega (arith, k.1) in
        subst (λ (u : ℕ). Refused (works u).area g' (drop m (works u).events)) (ap mesh_triangle e) (subst (λ (j : ℕ). Refused (works t).area g' (drop j (works t).events)) n' k.2)

    -- a mesh that stopped with 5 at triangle t, m of whose insertions were made
    pub mesh-refused-next : (count t : ℕ) (f : Field) (t' m : ℕ) (g : Field) → carry_mesh w th works count t 0 f ≡ halted 5 t' m g → Refused (works t').area g (drop m (works t').events)
    unfolding carry_mesh
    mesh-refused-next zero t f t' m g e = let z : ◌≡◌ {A = ℕ} 0 5 = ap mesh_reply e in absurd (omega (arith, z))
    mesh-refused-next (suc count) t f t' m g e =
        next-refused count t f (carry w th (works t).area 0 f (works t).events) refl (λ g₁ t₁ m₁ g₂ q. mesh-refused-next count (suc t) g₁ t₁ m₁ g₂ q) t' m g e
