-- Any sequence of calls from a fresh field on, each answered as its contract says, accepted or refused with any number. Three theorems: what a column
-- lists, when a span is refused, and that the order of the accepted spans does not count.
use mathlib.Core.Path.{◌≡◌, refl, sym, ap, ◌∙◌}
use mathlib.Core.Logic.{◌≢◌, inl, inr, ◌↔◌}
use mathlib.Core.Bool.{true, false}
use mathlib.Core.List.{List, [], ◌∷◌, map}
use Prim.Native.Nat.{ℕ, ◌+◌, ◌*◌, ◌<◌, ◌≤◌}
use native.Mathlib.Omega.{arith}
use lib.ListN.{length, take}
use Rattle.replies.specs.Said.{Said, just, Asks}
use Rattle.grid.specs.declared.Grid.{Grid}
use Rattle.grid.specs.Grid.{width, height, columns}
use Rattle.grid.proofs.Places.{cell_below}
use Rattle.field.specs.declared.Span.{Span}
use Rattle.field.specs.Spans.{Range, range}
use Rattle.field.specs.Field.{Field, ranges, Holds, insert}
use Rattle.field.specs.Stretches.{In, Lists}
use Rattle.field.specs.Store.{Store, Fitting, cleared, Outcome, left, Becomes}
use Rattle.field.specs.Calls.{Inserts, Offers}
use Rattle.field.specs.History.{add_span, Does, Step, History, Begins, accepted_in, Full}
use Rattle.field.proofs.Basics.{true-false, not-true-false}
use Rattle.field.proofs.Unique.{field_fixed}
use Rattle.field.proofs.Refusal.{refused-exactly}
use Rattle.field.proofs.Order.{covers-lists, lists-fixed}
use Rattle.field.proofs.Standing.{Standing, first-long, admitted, history-stands}

-- The store holds a sound field. A column of it lists from the lowest up, and without repeats, the stretches of the spans that it accepted, and nothing else.
pub columns-list-stretches : (g : Grid) (s : Store) → Begins g s → {steps : List Step} {t : Store} → History g s steps t
    → (f : Field) × Holds (take (columns g) t.heads) t.slots f × ((i : ℕ) → i < columns g → Lists (map range (accepted_in g i steps)) (ranges f i))
columns-list-stretches g s b h =
    let S = history-stands g s b h in
    (S.field, S.holds, λ i l. covers-lists (S.covers i l))

-- ---- when a span is refused

module _ {g : Grid} {A : ℕ → List Span} {s : Store} (S : Standing g A s) (x z : ℕ) (new : Span) (th : ℕ) (xw : x < width g) (zh : z < height g) (order : new.floor ≤ new.ceiling) (o : Outcome) where
  abbrev column : ℕ
  column = x + z * width g

  in-heads : column < length (take (columns g) s.heads)
  in-heads = omega (arith, cell_below x z (width g) (height g) xw zh, first-long S.fits)

  -- past the tests of place and order the span is inserted or refused for want of a slot
  inserts : Does g (add_span x z new th) s o → Inserts (columns g) column new th s o
  inserts d = inside (admitted S left (Fitting (columns g) s) (Offers (width g) (height g) x z new th s) o S.fits d)
    where
      ordered : Asks (new.floor ≤ new.ceiling) (left (just 9) (cleared s)) (Inserts (columns g) column new th s) o → Inserts (columns g) column new th s o
      ordered (inl a) = absurd (a.0 order)
      ordered (inr a) = a.1

      inside : Offers (width g) (height g) x z new th s o → Inserts (columns g) column new th s o
      inside (inl a) = absurd (a.0 (xw, zh))
      inside (inr a) = ordered a.1

  full-of : (insert th S.field column new).accepted ≡ false → Full S.field column new (length s.slots.nexts)
  full-of e = let k = (refused-exactly S.holds column in-heads new th order).0 e in record { apart = k.0; fill = k.1 }

  of-full : Full S.field column new (length s.slots.nexts) → (insert th S.field column new).accepted ≡ false
  of-full k = (refused-exactly S.holds column in-heads new th order).1 (k.apart, k.fill)

  not-zero : o.said ≡ just 0 → o.said.number ≢ 0 → ⊥
  not-zero e d = d (ap (λ (r : Said). r.number) e)

  exactly : (f : Field) → S.field ≡ f → Asks ((insert th f column new).accepted ≡ true) (left (just 5) (cleared s)) (Becomes (columns g) s (insert th f column new).field) o → (o.said.number ≢ 0) ↔ Full S.field column new (length s.slots.nexts)
  exactly f e (inl a) =
      (λ d. full-of (not-true-false (insert th S.field column new).accepted (λ q. a.0 (rw e at q))), λ k q. omega (arith, sym (ap (λ (r : Outcome). r.said.number) a.1) ∙ q))
  exactly f e (inr a) =
      (λ d. absurd (not-zero a.1.says d), λ k. absurd (true-false (sym (rw e a.0) ∙ of-full k)))

  refused_full : Does g (add_span x z new th) s o → (f : Field) → Holds (take (columns g) s.heads) s.slots f → (o.said.number ≢ 0) ↔ Full f column new (length s.slots.nexts)
  refused_full d f H =
      let k = inserts d in
      rw (field_fixed H S.holds) (exactly k.0 (field_fixed S.holds k.1) k.2)

-- A well-formed span on the grid is refused in one case only: it touches no height of its column, and the stretches of all columns fill the store.
pub refused-exactly-when-full : (g : Grid) (s : Store) → Begins g s → {steps : List Step} {t : Store} → History g s steps t
    → (f : Field) → Holds (take (columns g) t.heads) t.slots f
    → (x z : ℕ) (new : Span) (threshold : ℕ) → x < width g → z < height g → new.floor ≤ new.ceiling
    → (o : Outcome) → Does g (add_span x z new threshold) t o
    → (o.said.number ≢ 0) ↔ Full f (x + z * width g) new (length t.slots.nexts)
refused-exactly-when-full g s b h f H x z new th xw zh order o d = refused_full (history-stands g s b h) x z new th xw zh order o d f H

-- ---- the order of the accepted spans

in_map : (a : Range) (ss : List Span) → In a (map range ss) → (s : Span) × In s ss × (a ≡ range s)
in_map a [] i = absurd i
in_map a (s ∷ ss) (inl e) = (s, inl refl, e)
in_map a (s ∷ ss) (inr i) = let k = in_map a ss i in (k.0, inr k.1, k.2)

map-in : (s : Span) (ss : List Span) → In s ss → In (range s) (map range ss)
map-in s [] i = absurd i
map-in s (t ∷ ss) (inl e) = inl (ap range e)
map-in s (t ∷ ss) (inr i) = inr (map-in s ss i)

among : (A B : List Span) → ((s : Span) → In s A → In s B) → (a : Range) → In a (map range A) → In a (map range B)
among A B h a i = let k = in_map a A i in rw k.2 (map-in k.0 B (h k.0 k.1))

-- Two sequences that accept the same spans in a column, in whatever order and whatever else they do, leave the same floors and ceilings there. The
-- sequences may be on two grids and two stores.
pub order-does-not-count : (g g' : Grid) (s s' : Store) → Begins g s → Begins g' s'
    → {steps steps' : List Step} {t t' : Store} → History g s steps t → History g' s' steps' t'
    → (f f' : Field) → Holds (take (columns g) t.heads) t.slots f → Holds (take (columns g') t'.heads) t'.slots f'
    → (i i' : ℕ) → i < columns g → i' < columns g'
    → ((a : Span) → In a (accepted_in g i steps) ↔ In a (accepted_in g' i' steps'))
    → ranges f i ≡ ranges f' i'
order-does-not-count g g' s s' b b' {steps} {steps'} h h' f f' H H' i i' l l' same =
    let S = history-stands g s b h in
    let S' = history-stands g' s' b' h' in
    let A = accepted_in g i steps in
    let A' = accepted_in g' i' steps' in
    ap (λ (k : Field). ranges k i) (field_fixed H S.holds)
    ∙ lists-fixed {A = map range A} {B = map range A'} (λ a. (among A A' (λ x. (same x).0) a, among A' A (λ x. (same x).1) a)) (covers-lists (S.covers i l)) (covers-lists (S'.covers i' l'))
    ∙ ap (λ (k : Field). ranges k i') (field_fixed S'.holds H')
