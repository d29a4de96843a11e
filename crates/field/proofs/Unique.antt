-- A store holds at most one field, and a field fixes the store that holds it.
use mathlib.Core.Path.{◌≡◌, sym, ap, ◌∙◌}
use mathlib.Core.List.{List, []}
use Prim.Native.Nat.{ℕ, ◌<◌}
use native.Mathlib.Omega.{arith}
use native.Mathlib.Decide.{dec_lt}
use lib.ListN.{length, get_or}
use lib.Seq.{ext_get_or}
use Rattle.field.specs.Slots.{none, Contents, Slots, times}
use Rattle.field.specs.Field.{Field, column_at, Holds}
use Rattle.field.proofs.Basics.{by-dec}
use Rattle.field.proofs.Counting.{times_in-some}
use Rattle.field.proofs.Chains.{run-first, run-next, run-unique}

module _ {heads heads' : List ℕ} {t t' : Slots} {f : Field} (H : Holds heads t f) (H' : Holds heads' t' f) where
  same-heads : heads ≡ heads'
  same-heads =
      ext_get_or 0 heads heads' (sym H.wide ∙ H'.wide)
      (λ i l.
      run-first t.nexts (get_or heads i 0) (column_at f i) none (H.column i l)
      ∙ sym (run-first t'.nexts (get_or heads' i 0) (column_at f i) none (H'.column i (omega (arith, H.wide, H'.wide)))))

  same-free : t.free ≡ t'.free
  same-free = run-first t.nexts t.free f.spare none H.spare ∙ sym (run-first t'.nexts t'.free f.spare none H'.spare)

  same-contents : t.contents ≡ t'.contents
  same-contents = sym H.contents ∙ H'.contents

  same-nexts : t.nexts ≡ t'.nexts
  same-nexts =
      ext_get_or 0 t.nexts t'.nexts (sym H.sized.floors ∙ ap (λ (k : Contents). length k.floors) same-contents ∙ H'.sized.floors)
      (λ x l.
      by-dec (dec_lt 0 (times x f.spare)) (λ p. run-next t.nexts t'.nexts t.free t'.free f.spare none x H.spare H'.spare p)
      (λ n.
      let k = times_in-some x f.columns (omega (arith, H.once x l)) in
      run-next t.nexts t'.nexts (get_or heads k.0 0) (get_or heads' k.0 0) (column_at f k.0) none x (H.column k.0 (omega (arith, H.wide, k.1))) (H'.column k.0 (omega (arith, H'.wide, k.1))) k.2))

  -- One field, one store.
  pub store-fixed : (heads ≡ heads') × (t ≡ t')
  store-fixed = (same-heads, λ i. record { free = same-free i; contents = same-contents i; nexts = same-nexts i })

-- One store, one field.
pub field_fixed : {heads : List ℕ} {t : Slots} {f f' : Field} → Holds heads t f → Holds heads t f' → f ≡ f'
field_fixed {heads} {t} {f} {f'} H H' =
    let cols : f.columns ≡ f'.columns =
    ext_get_or [] f.columns f'.columns (H.wide ∙ sym H'.wide)
    (λ i l.
    let p : i < length heads = omega (arith, H.wide) in
    run-unique t.nexts (get_or heads i 0) (column_at f i) (column_at f' i) H.few (H.column i p) (H'.column i p))
    in
    let sp : f.spare ≡ f'.spare = run-unique t.nexts t.free f.spare f'.spare H.few H.spare H'.spare in
    λ i. record { columns = cols i; spare = sp i; contents = (H.contents ∙ sym H'.contents) i }
