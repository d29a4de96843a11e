-- The ends of `into_compact`, and the outcome that each makes.
use mathlib.Core.Path.{◌≡◌, refl, ap, ◌∙◌}
use mathlib.Core.Logic.{inl, inr}
use mathlib.Core.List.{List, flatten}
use Prim.Native.Nat.{ℕ, ◌*◌, ◌≤◌, min}
use native.Mathlib.Omega.{arith}
use lib.ListN.{length, take}
use lib.Ieee.{Float}
use Rattle.replies.specs.Said.{Said, just}
use Rattle.grid.specs.declared.Grid.{Grid}
use Rattle.grid.specs.Grid.{width, height, columns}
use Rattle.field.specs.Field.{Field, Holds}
use Rattle.field.specs.Store.{Store, store, cleared}
use Rattle.field.specs.Open.{columns_of, cells}
use Rattle.field.specs.Links.{passes, largest_missed}
use Rattle.field.specs.Compact.{Result, result_of, rows, Suiting, Room, Few, complete, outcome, keeping, raised_top, complete_says, Compacts, Compacted}
use Rattle.field.proofs.Admitting.{admits-past, admits-swap, admits-refused}
use Rattle.rerecast.specs.Answer.{refusal_says}
use Rattle.std.specs.Prelude.{Ok, Err}
use Rattle.grid.specs.declared.sizes.Size.{Size}
use Rattle.rerecast.specs.declared.Refusal.{Refusal}
use Rattle.rerecast.specs.declared.lent.Compact.{Compact}
use Rattle.rerecast.specs.Lent.{compact_of}
use Rattle.rerecast.specs.Inner.{Fitted, AdmitsCall}
use Rattle.rerecast.proofs.GivenBack.{CompactBack, compact-back}

-- ---- the outcomes, of one field

module _ (w h : ℕ) (top : Float) (tall climb : ℕ) (s : Store) (t : Result) (f : Field) (H : Holds (take (w * h) s.heads) s.slots f) where
  pub ends-crowded : (Few (cells (columns_of f)) → ⊥) → Compacts w h top tall climb s t (keeping t (just 11) (cleared s))
  ends-crowded n = (f, H, inl (n, refl))

  pub ends-short : Few (cells (columns_of f)) → (Room (length (flatten (cells (columns_of f)))) t.rows → ⊥) → Compacts w h top tall climb s t (keeping t (just 15) (cleared s))
  ends-short few n = (f, H, inr (few, inl (n, refl)))

  pub ends-complete : {said : Said} {t' : Result} {layer : ℕ} → Few (cells (columns_of f)) → Room (length (flatten (cells (columns_of f)))) t.rows → said ≡ complete_says layer top → layer ≡ largest_missed (passes tall climb) w h (cells (columns_of f)) → t' ≡ complete (passes tall climb) w h (columns_of f) t → Compacts w h top tall climb s t (outcome said (cleared s) t')
  ends-complete {said} {t'} {layer} few room es el et =
      let e : said ≡ complete_says (largest_missed (passes tall climb) w h (cells (columns_of f))) top = es ∙ ap (λ (l : ℕ). complete_says l top) el in
      (f, H, inr (few, inr (room, λ i. outcome (e i) (cleared s) (et i))))

-- ---- the call

-- what reply 4 asks of the slices, as `admit` has it
suits : (n a b shortest : ℕ) (s : Store) (t : Result) → a ≡ length t.indices → b ≡ length t.counts → shortest ≡ min a b → Fitted n shortest s → Suiting n s t
suits n a b shortest s t ea eb e F = record { fitting = F.0; indices = omega (arith, F.1); counts = omega (arith, F.1) }

fitted : (n a b shortest : ℕ) (s : Store) (t : Result) → a ≡ length t.indices → b ≡ length t.counts → shortest ≡ min a b → Suiting n s t → Fitted n shortest s
fitted n a b shortest s t ea eb e S = (S.fitting, omega (arith, S.indices, S.counts))

module _ (g : Grid) (tall climb shortest : ℕ) (s : Store) (marks' : List ℕ) (t : Result) (e : shortest ≡ min (length t.indices) (length t.counts)) where
  -- refused by a test
  pub compacted-refused : (q : Refusal) → AdmitsCall (Err q) g shortest s marks' → Compacted g tall climb s t (keeping t (refusal_says q) (store s.heads s.slots marks'))
  compacted-refused q A =
      let next = Compacts (width g) (height g) (raised_top g tall) tall climb s t in
      let s' = store s.heads s.slots marks' in
      admits-swap (keeping t) g s next (keeping t (refusal_says q) s') (suits (columns g) _ _ shortest s t refl refl e) (fitted (columns g) _ _ shortest s t refl refl e)
      (admits-refused (keeping t) g (Fitted (columns g) shortest s) s next (refusal_says q) s' A)

  -- past all tests
  module _ (size : Size) (A : AdmitsCall (Ok size) g shortest s marks') where
    pub field-ready : ((size.width * size.height ≤ length t.indices) × (size.width * size.height ≤ length t.counts))
    field-ready = rw (A.1.0.0, A.1.0.1) (omega (arith, A.1.1.fits.1), omega (arith, A.1.1.fits.1))

    pub compacted-field : {top : Float} {said : Said} (t' : Compact) {ix sz ys ws ar : List ℕ} → CompactBack t' ix sz ys ws ar → top ≡ raised_top g tall
        → Compacts size.width size.height top tall climb s t (outcome said (cleared s) (compact_of t'))
        → Compacted g tall climb s t (outcome said (store s.heads s.slots marks') (result_of ix sz (rows ys ws ar)))
    compacted-field {top} {said} t' back et C =
        let next = Compacts (width g) (height g) (raised_top g tall) tall climb s t in
        rw (compact-back t' back) (
        admits-past (keeping t) g s next (outcome said (store s.heads s.slots marks') (compact_of t')) A.0
        (suits (columns g) _ _ shortest s t refl refl e A.1.1.fits) A.1.1.sound (rw (A.1.1.zeros, ← A.1.0.0, ← A.1.0.1, ← et) C)
        )
