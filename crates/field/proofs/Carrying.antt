-- Of work carried out: some work and then more comes to what the two come to one after the other, and no more insertions are made than the work has.
use mathlib.Core.Path.{◌≡◌, refl, sym, ap, ◌∙◌}
use mathlib.Core.Bool.{Bool, true, false, cond}
use mathlib.Core.List.{List, [], ◌∷◌}
use Prim.Native.Nat.{ℕ, suc, ◌+◌, ◌*◌, ◌≤◌}
use native.Mathlib.Omega.{arith}
use lib.ListN.{length}
use Rattle.clip.specs.Work.{Event, insert as offer, stop, and_then}
use Rattle.field.specs.Slots.{Slots}
use Rattle.field.specs.Field.{Field, Holds, Inserted, insert}
use Rattle.field.specs.Carrying.{Carried, went, stopped, carry}
use Rattle.field.specs.Working.{Remains}

abbrev pub made_in : Carried → ℕ
made_in (went n f) = n
made_in (stopped reply n f) = n

module _ (width threshold area : ℕ) where
  -- more work, unless what came before stopped
  abbrev pub onto : Carried → List Event → Carried
  onto (went n f) es = carry width threshold area n f es
  onto (stopped reply n f) es = stopped reply n f

  abbrev inserted : Field → ℕ → ℕ → ℕ → ℕ → Inserted
  inserted f x z floor ceiling = insert threshold f (x + z * width) (record { floor = floor; ceiling = ceiling; area = area })

  pub carry-then : (n : ℕ) (f : Field) (a b : List Event) → carry width threshold area n f (and_then a b) ≡ onto (carry width threshold area n f a) b
  unfolding carry and_then
  carry-then n f [] b = refl
  carry-then n f (stop reply ∷ a) b = refl
  carry-then n f (offer x z floor ceiling ∷ a) b =
      let r = inserted f x z floor ceiling in
      go _ _ r.accepted (carry-then (n + 1) r.field a b)
    where
      go : (p q : Carried) (t : Bool) → p ≡ onto q b → cond t p (stopped 5 n f) ≡ onto (cond t q (stopped 5 n f)) b
      go p q true e = e
      go p q false e = refl

  pub made-most : (n : ℕ) (f : Field) (es : List Event) → made_in (carry width threshold area n f es) ≤ n + length es
  unfolding carry
  made-most n f [] = omega arith
  made-most n f (stop reply ∷ es) = omega arith
  made-most n f (offer x z floor ceiling ∷ es) =
      let r = inserted f x z floor ceiling in
      go _ r.accepted (made-most (n + 1) r.field es)
    where
      go : (p : Carried) (t : Bool) → made_in p ≤ n + 1 + length es → made_in (cond t p (stopped 5 n f)) ≤ n + suc (length es)
      go p true h = omega arith
      go p false h = omega arith

  -- ---- what remains of work

  -- once some work was done, the rest of it and more remain
  pub remains-then : {o : Carried} (n : ℕ) (g : Field) (near far : List Event) → carry width threshold area n g (and_then near far) ≡ o
      → {m : ℕ} {rest : List Event} {heads : List ℕ} {t : Slots} → Remains width threshold area (carry width threshold area n g near) m rest heads t
      → Remains width threshold area o m (and_then rest far) heads t
  remains-then n g near far e {m} {rest} R =
      record {
        field = R.field;
        holds = R.holds;
        comes = carry-then m R.field rest far ∙ ap (λ (p : Carried). onto p far) R.comes ∙ sym (carry-then n g near far) ∙ e;
      }

  -- the same work under another name, begun or done
  pub remains-is : (n : ℕ) {f : Field} {es rest : List Event} {heads : List ℕ} {t : Slots} → es ≡ rest → Holds heads t f → Remains width threshold area (carry width threshold area n f es) n rest heads t
  remains-is n {f} e H = record { field = f; holds = H; comes = ap (λ (x : List Event). carry width threshold area n f x) (sym e) }

  pub remains-of : (n : ℕ) (f : Field) {es es' : List Event} {m : ℕ} {rest : List Event} {heads : List ℕ} {t : Slots} → es ≡ es'
      → Remains width threshold area (carry width threshold area n f es') m rest heads t → Remains width threshold area (carry width threshold area n f es) m rest heads t
  remains-of n f e R = record { field = R.field; holds = R.holds; comes = R.comes ∙ ap (λ (x : List Event). carry width threshold area n f x) (sym e) }

  pub remains-as : {o : Carried} (n : ℕ) {es es' : List Event} {heads : List ℕ} {t : Slots} → es ≡ es' → Remains width threshold area o n es heads t → Remains width threshold area o n es' heads t
  remains-as n e R = record { field = R.field; holds = R.holds; comes = ap (λ (x : List Event). carry width threshold area n R.field x) (sym e) ∙ R.comes }

  -- ---- one insertion

  module _ (n : ℕ) (f : Field) (x z floor ceiling : ℕ) {heads : List ℕ} {t : Slots} where
    pub insertion-made : (inserted f x z floor ceiling).accepted ≡ true → Holds heads t (inserted f x z floor ceiling).field
        → Remains width threshold area (carry width threshold area n f (offer x z floor ceiling ∷ [])) (n + 1) [] heads t
    unfolding carry
    insertion-made e H = record { field = (inserted f x z floor ceiling).field; holds = H; comes = rw e }

    pub insertion-refused : (inserted f x z floor ceiling).accepted ≡ false → (inserted f x z floor ceiling).field ≡ f → Holds heads t (inserted f x z floor ceiling).field
        → Remains width threshold area (carry width threshold area n f (offer x z floor ceiling ∷ [])) n (stop 5 ∷ []) heads t
    unfolding carry
    insertion-refused e same H = record { field = f; holds = rw same at H; comes = rw e }

  -- where all is done, or only a stop is left, the insertions made are no more than the work has
  pub made-few : (n : ℕ) (f : Field) (es : List Event) {m : ℕ} (rest : List Event) {heads : List ℕ} {t : Slots} → ((g : Field) → made_in (carry width threshold area m g rest) ≡ m)
      → Remains width threshold area (carry width threshold area n f es) m rest heads t → m ≤ n + length es
  made-few n f es rest ends R = omega (arith, made-most n f es, ends R.field, ap made_in R.comes)
