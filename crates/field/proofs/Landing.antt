-- The insertion as code makes it, in four steps: the pass, the merges, the slot taken, the link. What each step promises, put together, is the rule's.
-- Only the first heads are at hand: those of others follow them.
use mathlib.Core.Path.{◌≡◌, refl, sym, ap, ◌∙◌}
use mathlib.Core.Logic.{◌≢◌}
use mathlib.Core.Bool.{true, false}
use mathlib.Core.List.{List, [], ◌∷◌, ◌++◌, foldl, append-nil}
use Prim.Native.Nat.{ℕ, ◌<◌, ◌≤◌}
use native.Mathlib.Omega.{arith}
use lib.ListN.{length, get_or, length-set, length-append, get_or-append}
use Rattle.field.specs.declared.Span.{Span}
use Rattle.field.specs.Spans.{Walk, walk_up}
use Rattle.field.specs.Slots.{none, Contents, span_at, Slots, Sized, Run, times}
use Rattle.field.specs.Field.{Field, column_at, Holds, Inserted, insert}
use Rattle.field.specs.Inner.{Chain, Distinct, first_or, last_or, below, from, Over, give_back, Absorbs, fill, link_heads, link_nexts}
use Rattle.field.proofs.Counting.{times-append}
use Rattle.field.proofs.Chains.{run-split, run-last, chain-of}
use Rattle.field.proofs.Walking.{below-from, from-over, walk_from_lem, lifted, walk-reached}
use Rattle.field.proofs.Holding.{column-chain, column-distinct}
use Rattle.field.proofs.Linking.{link-heads-append}
use Rattle.field.proofs.Inserting.{placed, walk_of, walk-given}
use Rattle.field.proofs.Accepting.{slots_given, refused, front, result, accepted-is, holds-result}
use Rattle.field.proofs.Passing.{Stops}

last-slot : (nx : List ℕ) (h : ℕ) (low : List ℕ) (e : ℕ) → Run nx h low e → last_or none low ≢ none → last_or none low < length nx
last-slot nx h [] e r n = absurd (n refl)
last-slot nx h (s ∷ ss) e r n = run-last nx h s ss e r

-- the slots below the new floor, and the others
abbrev low_of : Slots → Field → ℕ → Span → List ℕ
low_of t f i new = below t.contents.ceilings new.floor (column_at f i)

abbrev up_of : Slots → Field → ℕ → Span → List ℕ
up_of t f i new = from t.contents.ceilings new.floor (column_at f i)

-- the slots and the heads, each by the value that code has for it
as-made : (heads others : List ℕ) (i : ℕ) → i < length heads → (f : Field) {t : Slots} {span : Span} {next before : ℕ} → Holds (link_heads (heads ++ others) i before t.free) (placed t span next before) f → {t₁ : Slots} → t ≡ t₁ → {span₁ : Span} → span ≡ span₁ → {next₁ : ℕ} → next ≡ next₁ → {before₁ : ℕ} → before ≡ before₁ → {s : ℕ} → s ≡ t₁.free → {t₂ : Slots} → t₂ ≡ fill t₁ span₁ next₁ → {heads₃ nx₃ : List ℕ} → heads₃ ≡ link_heads heads i before₁ s → nx₃ ≡ link_nexts t₂.nexts before₁ s → Holds (heads₃ ++ others) (record { free = t₂.free; contents = t₂.contents; nexts = nx₃ }) f
as-made heads others i lt f {t} {span} {next} {before} H et esp en eb es e₂ eh enx =
    rw (eh, enx, e₂, es, ← et, ← esp, ← en, ← eb, ← link-heads-append heads others i before t.free lt) H

module _ (heads others : List ℕ) {t : Slots} {f : Field} (H : Holds (heads ++ others) t f) (i : ℕ) (lt : i < length heads) (new : Span) (th : ℕ) where
  inside : i < length (heads ++ others)
  inside = omega (arith, length-append heads others)

  head-here : get_or (heads ++ others) i 0 ≡ get_or heads i 0
  head-here = get_or-append heads others 0 i lt

  pub pass-chain : (ss : List ℕ) × Chain t.nexts (get_or heads i 0) ss
  pass-chain = (column_at f i, rw head-here at (column-chain H i inside))

  -- ---- after the pass

  module _ {before at : ℕ} (P : Stops t.contents.ceilings t.nexts (get_or heads i 0) new.floor before at) where
    here : (before ≡ last_or none (low_of t f i new)) × (at ≡ first_or none (up_of t f i new))
    unfolding pass-chain
    here = P pass-chain.0 pass-chain.1

    parts-run : Run t.nexts (get_or heads i 0) (low_of t f i new) (first_or none (up_of t f i new)) × Run t.nexts (first_or none (up_of t f i new)) (up_of t f i new) none
    parts-run =
        run-split t.nexts (get_or heads i 0) (low_of t f i new) (up_of t f i new) none
        (rw (below-from t.contents.ceilings new.floor (column_at f i), ← head-here) (H.column i inside))

    up-distinct : Distinct (up_of t f i new)
    up-distinct x =
        omega (arith, column-distinct H i x, times-append x (low_of t f i new) (up_of t f i new), ap (λ (l : List ℕ). times x l) (below-from t.contents.ceilings new.floor (column_at f i)))

    up-over : Over t.contents.ceilings new.floor (up_of t f i new)
    up-over = from-over t.contents 0 new.floor (column_at f i) (rw H.contents at (H.ascends i inside))

    pub merge-chain : (ss : List ℕ) × (Chain t.nexts at ss × (Distinct ss × Over t.contents.ceilings new.floor ss))
    merge-chain = ((up_of t f i new), (rw here.1 (chain-of H.few parts-run.1 up-distinct), (up-distinct, up-over)))

    -- ---- after the merges

    module _ {t₁ : Slots} {span : Span} {next count : ℕ} (M : (ss : List ℕ) → Chain t.nexts at ss → Absorbs th t new ss t₁ span next count) where
      there : Absorbs th t new (up_of t f i new) t₁ span next count
      unfolding merge-chain
      there = M merge-chain.0 merge-chain.1.0

      -- the walk from there on is the rest of the rule's
      walk_is : walk_of th f i new ≡ lifted (low_of t f i new) (walk_up (span_at t.contents) th new (up_of t f i new))
      walk_is = ap (λ (k : Contents). walk_up (span_at k) th new (column_at f i)) H.contents ∙ walk_from_lem t.contents th new (column_at f i)

      passed_is : (walk_of th f i new).passed ≡ (low_of t f i new)
      passed_is =
          ap (λ (w : Walk ℕ). w.passed) walk_is ∙ rw (walk-reached t.contents th new (up_of t f i new) up-over).passed (append-nil (low_of t f i new))

      given_is : t₁ ≡ slots_given th t f i new
      given_is = there.left ∙ sym (ap (λ (w : Walk ℕ). foldl give_back t w.merged) walk_is)

      -- no slot is free: the rule refuses too, and nothing has changed
      pub is-refused : t₁.free ≡ none → ((insert th f i new).accepted ≡ false) × Holds (heads ++ others) t₁ (insert th f i new).field
      is-refused e =
          let r = refused H i inside new th (rw given_is at e) in
          (ap (λ (o : Inserted). o.accepted) r.0.is, rw (r.0.is, given_is, r.1) H)

      free-given : t₁.free ≢ none → (slots_given th t f i new).free ≢ none
      free-given n = rw given_is at n

      -- the front of the free chain can be taken
      pub take-ready : new.floor ≤ new.ceiling → t₁.free ≢ none → Sized t₁ × (t₁.free < length t₁.nexts)
      take-ready order n = rw given_is ((walk-given H i inside new th).sized, (front H i inside new th order (free-given n)).2)

      pub link-ready : {t₂ : Slots} → t₂ ≡ fill t₁ span next → before ≢ none → before < length t₂.nexts
      link-ready {t₂ = t₂} e n =
          let l = last-slot t.nexts (get_or heads i 0) (low_of t f i new) (first_or none (up_of t f i new)) parts-run.0 (rw here.0 at n) in
          rw (e, length-set, given_is, here.0) (omega (arith, (walk-given H i inside new th).size))

      -- and with it the span has landed as the rule says
      module _ (order : new.floor ≤ new.ceiling) (n : t₁.free ≢ none) where
        pub landed : ((insert th f i new).accepted ≡ true) × ((t₁.free ≡ (insert th f i new).slot) × (count ≡ (insert th f i new).merged))
        landed =
            rw (accepted-is H i inside new th order (free-given n))
            (refl, (ap (λ (u : Slots). u.free) given_is, there.merged ∙ sym (ap (λ (w : Walk ℕ). length w.merged) walk_is)))

        pub is-accepted : {s : ℕ} → s ≡ t₁.free → {t₂ : Slots} → t₂ ≡ fill t₁ span next → {heads₃ nx₃ : List ℕ} → heads₃ ≡ link_heads heads i before s → nx₃ ≡ link_nexts t₂.nexts before s → Holds (heads₃ ++ others) (record { free = t₂.free; contents = t₂.contents; nexts = nx₃ }) (insert th f i new).field
        is-accepted es e₂ eh en =
            let o = accepted-is H i inside new th order (free-given n) in
            let r = holds-result H i inside new th order (free-given n) in
            let span-is : (walk_of th f i new).span ≡ span = ap (λ (w : Walk ℕ). w.span) walk_is ∙ sym there.span in
            let next-is : first_or none (walk_of th f i new).above ≡ next = ap (λ (w : Walk ℕ). first_or none w.above) walk_is ∙ sym there.rest in
            let last-is : last_or none (walk_of th f i new).passed ≡ before = ap (last_or none) passed_is ∙ sym here.0 in
            rw o (as-made heads others i lt (result H i inside new th order (free-given n)) r (sym given_is) span-is next-is last-is es e₂ eh en)
