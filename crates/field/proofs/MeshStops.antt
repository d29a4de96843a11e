-- The letter's third demand for a mesh: it stops for want of a slot only at a span that finds no room, being apart from its column while no slot is left.
use mathlib.Core.Path.{◌≡◌, sym, ap, subst, ◌∙◌}
use mathlib.Core.Logic.{inl, inr}
use mathlib.Core.List.{List, [], ◌∷◌, map}
use Prim.Native.Nat.{ℕ, zero, suc, ◌+◌, ◌*◌, ◌≤◌}
use native.Mathlib.Omega.{arith}
use lib.ListN.{length, get_or, take, drop}
use lib.Ieee.{Float}
use Rattle.replies.specs.Said.{Value, whole, real, Said, say, just}
use Rattle.grid.specs.declared.Grid.{Grid}
use Rattle.grid.specs.Grid.{width, height, columns, coordinate_ok, coordinate, first_outside}
use Rattle.grid.proofs.Accepted.{accepted}
use Rattle.clip.specs.Work.{Event, insert as offer, stop, frame_of}
use Rattle.clip.proofs.Works.{Proper, triangle-proper}
use Rattle.grid.proofs.Places.{cell_below}
use Rattle.field.specs.declared.Span.{Span}
use Rattle.field.specs.Field.{Field, Holds}
use Rattle.field.specs.Store.{Store, cleared, Outcome, left}
use Rattle.field.specs.Carrying.{Meshed, placed, halted, says_of, leaves, Work}
use Rattle.field.specs.Meshes.{Mesh, corners_of, work_of, rasterized, vertices_say, Builds, Rasterized}
use Rattle.field.specs.History.{rasterize_triangles, Does, Step, History, Begins, Full}
use Rattle.field.proofs.Basics.{by-test}
use Rattle.field.proofs.Accepting.{Kept}
use Rattle.field.proofs.Unique.{field_fixed}
use Rattle.field.proofs.Refusal.{refused-exactly}
use Rattle.field.proofs.Standing.{Standing, history-stands, rasterized-grows}
use Rattle.field.proofs.Stopping.{Refused, mesh-refused-next}

-- the first of these events offers a span that finds no room: apart from its column, in a field that fills n slots
abbrev pub NoRoom : ℕ → ℕ → Field → ℕ → List Event → Type 0
NoRoom w area f n [] = ⊥
NoRoom w area f n (stop reply ∷ es) = ⊥
NoRoom w area f n (offer x z floor ceiling ∷ es) = Full f (x + z * w) (record { floor = floor; ceiling = ceiling; area = area }) n

refused-no-room : (w h th area : ℕ) (f : Field) (N : ℕ) → Kept (w * h) N f → (es : List Event) → Proper w h es → Refused w h th area f es → NoRoom w area f N es
refused-no-room w h th area f N K [] p r = r
refused-no-room w h th area f N K (stop reply ∷ es) p r = r
refused-no-room w h th area f N K (offer x z floor ceiling ∷ es) p r =
    let I = p.0 in
    let k = (refused-exactly K.holds (x + z * w) (omega (arith, cell_below x z w h I.column I.row, K.columns)) (record { floor = floor; ceiling = ceiling; area = area }) th (omega (arith, I.some-height))).0 r in
    record { apart = k.0; fill = k.1 ∙ K.size }

proper-drop : (w h k : ℕ) (es : List Event) → Proper w h es → Proper w h (drop k es)
proper-drop w h zero es p = p
proper-drop w h (suc k) [] p = tt
proper-drop w h (suc k) (offer x z floor ceiling ∷ es) p = proper-drop w h k es p.1
proper-drop w h (suc k) (stop reply ∷ es) p = subst (λ (l : List Event). Proper w h (drop k l)) (sym p.1) (proper-drop w h k [] tt)

-- ---- a reply 5 with its place comes from the mesh's own work

first_of : List Value → ℕ
first_of [] = 0
first_of (real x ∷ vs) = 0
first_of (whole n ∷ vs) = n

second_of : List Value → ℕ
second_of [] = 0
second_of (v ∷ vs) = first_of vs

outside-few : (l : List Float) → length (first_outside (map coordinate l) (just 0)).values ≤ 1
unfolding first_outside
outside-few [] = omega arith
outside-few (x ∷ l) = by-test (coordinate_ok x) (λ e. rw e (outside-few l)) (λ e. rw e (omega arith))

-- a refusal with fewer values is another
other : {n made : ℕ} (said : Said) → length said.values ≤ 1 → said ≡ say 5 (whole n ∷ whole made ∷ []) → ⊥
other said few e = let z : length said.values ≡ 2 = ap (λ (k : Said). length k.values) e in omega (arith, z)

halted-at : (r : Meshed) (n made : ℕ) → says_of r ≡ say 5 (whole n ∷ whole made ∷ []) → r ≡ halted 5 n made (leaves r)
unfolding first_of second_of
halted-at (placed f) n made e = absurd (other (just 0) (omega arith) e)
halted-at (halted reply t m f) n made e =
    let number = ap (λ (k : Said). k.number) e in
    let triangle : t ≡ n = ap (λ (k : Said). first_of k.values) e in
    let count : m ≡ made = ap (λ (k : Said). second_of k.values) e in
    λ i. halted (number i) (triangle i) (count i) f

module _ {g : Grid} {A : ℕ → List Span} {s : Store} (S : Standing g A s) (m : Mesh) (th : ℕ) (o : Outcome) (n made : ℕ) (said : o.said ≡ say 5 (whole n ∷ whole made ∷ [])) where
  abbrev Stuck : Type 0
  Stuck =
      (f : Field)
      × Holds (take (columns g) o.store.heads) o.store.slots f
      × NoRoom (width g) (get_or m.areas n 0) f (length s.slots.nexts) (drop made (work_of (frame_of g (width g) (height g)) m n).events)

  refusal : (r : Said) (t : Store) → length r.values ≤ 1 → o ≡ left r t → ⊥
  refusal r t few e = other r few (sym (ap (λ (k : Outcome). k.said) e) ∙ said)

  builds-stuck : Builds (columns g) (rasterized (frame_of g (width g) (height g)) m th) s o → Stuck
  unfolding frame_of
  builds-stuck (f, H, E) =
      let a = accepted g S.grid in
      let r = rasterized (frame_of g (width g) (height g)) m th f in
      let h = halted-at r n made (sym E.says ∙ said) in
      let works : ℕ → Work = work_of (frame_of g (width g) (height g)) m in
      let proper : (t : ℕ) → Proper (width g) (height g) (works t).events = λ t. triangle-proper (frame_of g (width g) (height g)) a.wide a.high (corners_of m t) in
      let stops = mesh-refused-next (width g) (height g) th works proper (length m.areas) 0 f n made (leaves r) h in
      let kept = subst (λ (k : Field). Kept (columns g) (length s.slots.nexts) (leaves (rasterized (frame_of g (width g) (height g)) m th k))) (sym (field_fixed H S.holds)) (rasterized-grows S m th).kept in
      (leaves r, E.holds, refused-no-room (width g) (height g) th (get_or m.areas n 0) (leaves r) (length s.slots.nexts) kept (drop made (works n).events) (proper-drop (width g) (height g) made (works n).events (proper n)) stops)

  stuck : Rasterized g m th s o → Stuck
  stuck (inl a) = absurd (a.0 S.grid)
  stuck (inr (e, inl a)) = absurd (refusal (just 4) s (omega arith) a.1)
  stuck (inr (e, inr (fit, inl a))) = absurd (a.0 (S.field, S.holds))
  stuck (inr (e, inr (fit, inr (sound, inl a)))) = absurd (refusal (just 10) (cleared s) (omega arith) a.1)
  stuck (inr (e, inr (fit, inr (sound, inr (named, inl a))))) = absurd (refusal (vertices_say m) (cleared s) (outside-few m.vertices) a.1)
  stuck (inr (e, inr (fit, inr (sound, inr (named, inr (inside, b)))))) = builds-stuck b

-- After any calls from a fresh field on, a mesh that answers 5 at triangle n with `made` insertions made leaves a field in which the next span that the
-- triangle offers finds no room.
pub mesh-stops-only-when-full : (g : Grid) (s : Store) → Begins g s → {steps : List Step} {t : Store} → History g s steps t
    → (m : Mesh) (threshold : ℕ) (o : Outcome) → Does g (rasterize_triangles m threshold) t o
    → (n made : ℕ) → o.said ≡ say 5 (whole n ∷ whole made ∷ [])
    → (f : Field)
    × Holds (take (columns g) o.store.heads) o.store.slots f
    × NoRoom (width g) (get_or m.areas n 0) f (length t.slots.nexts) (drop made (work_of (frame_of g (width g) (height g)) m n).events)
mesh-stops-only-when-full g s b h m th o d n made said = stuck (history-stands g s b h) m th o n made said d
