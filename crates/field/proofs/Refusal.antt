-- A span is refused in one case only: it touches no height of its column, and the spans of all columns fill the store.
use mathlib.Core.Path.{◌≡◌, refl, sym, ap, ◌∙◌}
use mathlib.Core.Logic.{inl, inr, ⊎_elim, ◌↔◌}
use mathlib.Core.Bool.{false}
use mathlib.Core.List.{List, [], ◌∷◌, map, foldl}
use Prim.Native.Nat.{ℕ, suc, ◌<◌, ◌≤◌}
use native.Mathlib.Omega.{arith}
use borrow.Author.Tests.{ltb-true, ltb-false}
use lib.ListN.{length, get_or}
use lib.Dec.{ltb}
use Rattle.field.specs.declared.Span.{Span}
use Rattle.field.specs.Spans.{Range, range, Ascends, joined, walk_up}
use Rattle.field.specs.Slots.{Contents, span_at, range_at, Slots}
use Rattle.field.specs.Field.{Field, column_at, ranges, length_in, Holds, release, Inserted, insert}
use Rattle.field.specs.Stretches.{In, Shares}
use Rattle.field.proofs.Basics.{by-test, no_length, true-false}
use Rattle.field.proofs.Walking.{asc-in}
use Rattle.field.proofs.Holding.{slot-total}
use Rattle.field.proofs.Inserting.{walk_of}
use Rattle.field.proofs.Accepting.{Refuses, refuses, insert-cases}

-- where the new span shares no height with the column nothing merges
apart-merged : (k : Contents) (th : ℕ) (new : Span) (ss : List ℕ) → ((s : Range) → In s (map (range_at k) ss) → Shares (range new) s → ⊥) → (walk_up (span_at k) th new ss).merged ≡ []
apart-merged k th new [] h = refl
apart-merged k th new (s ∷ ss) h =
    by-test (ltb (get_or k.ceilings s 0) new.floor) (λ t. rw t (apart-merged k th new ss (λ x i. h x (inr i))))
    (λ t.
    by-test (ltb new.ceiling (get_or k.floors s 0)) (λ u. rw (t, u))
    (λ u. absurd (h (range_at k s) (inl refl) (ltb-false (get_or k.ceilings s 0) new.floor t, ltb-false new.ceiling (get_or k.floors s 0) u))))

not-cons : {X : Type 0} (x : ℕ) (l : List ℕ) → x ∷ l ≡ [] → X
not-cons x l e = absurd (omega (arith, ap length e))

-- and where nothing merges it shares none, as the column ascends
merged-apart : (k : Contents) (th b : ℕ) (new : Span) (ss : List ℕ) → Ascends b (map (range_at k) ss) → (walk_up (span_at k) th new ss).merged ≡ [] → (s : Range) → In s (map (range_at k) ss) → Shares (range new) s → ⊥
merged-apart k th b new [] r z s i sh = i
merged-apart k th b new (x ∷ ss) r z s i sh =
    by-test (ltb (get_or k.ceilings x 0) new.floor)
    (λ t.
    ⊎_elim (λ e. omega (arith, ltb-true (get_or k.ceilings x 0) new.floor t, sh.0, ap (λ (z : Range). z.ceiling) e))
    (λ j. merged-apart k th (suc (get_or k.ceilings x 0)) new ss r.2 (rw t at z) s j sh) i)
    (λ t.
    by-test (ltb new.ceiling (get_or k.floors x 0))
    (λ u.
    omega (arith, sh.1, (asc-in (suc new.ceiling) (map (range_at k) (x ∷ ss)) s (ltb-true new.ceiling (get_or k.floors x 0) u, r.1, r.2) i).0))
    (λ u. not-cons x (walk_up (span_at k) th (joined th new (span_at k x)) ss).merged (rw (t, u) at z)))

module _ {heads : List ℕ} {t : Slots} {f : Field} (H : Holds heads t f) (i : ℕ) (lt : i < length heads) (new : Span) (th : ℕ) (order : new.floor ≤ new.ceiling) where
  abbrev Full : Type 0
  Full = ((s : Range) → In s (ranges f i) → Shares (range new) s → ⊥) × (length_in f.columns ≡ length t.nexts)

  refuses-full : Refuses th f i new (insert th f i new) → Full
  refuses-full r = (
    merged-apart f.contents th 0 new (column_at f i) (H.ascends i lt) r.none-merged,
    omega (arith, slot-total H, ap length r.none_free),
  )

  full_refuses : Full → Refuses th f i new (insert th f i new)
  full_refuses e =
      let z : f.spare ≡ [] = no_length f.spare (omega (arith, slot-total H, e.1)) in
      let m : (walk_of th f i new).merged ≡ [] = apart-merged f.contents th new (column_at f i) e.0 in
      refuses H i lt new th (ap (λ (l : List ℕ). (foldl release f l).spare) m ∙ z)

  refused-refuses : (insert th f i new).accepted ≡ false → Refuses th f i new (insert th f i new)
  refused-refuses e = ⊎_elim (λ a. absurd (true-false (sym a.accepted ∙ e))) (λ r. r) (insert-cases H i lt new th order)

  pub refused-exactly : ((insert th f i new).accepted ≡ false) ↔ Full
  refused-exactly = (
    λ e. refuses-full (refused-refuses e),
    λ p. ap (λ (o : Inserted). o.accepted) (full_refuses p).is,
  )

  -- a refused span leaves the field
  pub refused-field : (insert th f i new).accepted ≡ false → (insert th f i new).field ≡ f
  refused-field e = ap (λ (o : Inserted). o.field) (refused-refuses e).is
