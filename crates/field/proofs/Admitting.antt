-- The tests that every call makes first: passing them all, being refused by one, and asking for the same in other words.
use mathlib.Core.Path.{◌≡◌, ap}
use mathlib.Core.Logic.{inl, inr}
use Rattle.replies.specs.Said.{Said, just, Asks}
use Rattle.grid.specs.declared.Grid.{Grid}
use Rattle.grid.specs.Grid.{columns, grid_says}
use Rattle.field.specs.Store.{Store, Sound, cleared, Outcome, left, Admits}

-- all are passed, and the call goes on
pub admits-past : {O : Type 0} (ends : Said → Store → O) (g : Grid) {Fitted : Type 0} (s : Store) (next : O → Type 0) (o : O) → (grid_says g).number ≡ 0 → Fitted → Sound (columns g) s → next o → Admits ends g Fitted s next o
admits-past ends g s next o e f h n = inr (e, inr (f, inr (h, n)))

-- what is asked of the slices, in other words
fits-swap : {O : Type 0} {F F' : Type 0} (r : O) (next : O → Type 0) (o : O) → (F → F') → (F' → F) → Asks F r next o → Asks F' r next o
fits-swap r next o to back (inl a) = inl (λ f. a.0 (back f), a.1)
fits-swap r next o to back (inr a) = inr (to a.0, a.1)

pub admits-swap : {O : Type 0} (ends : Said → Store → O) (g : Grid) {F F' : Type 0} (s : Store) (next : O → Type 0) (o : O) → (F → F') → (F' → F) → Admits ends g F s next o → Admits ends g F' s next o
admits-swap ends g s next o to back (inl a) = inl a
admits-swap ends g s next o to back (inr a) = inr (a.0, fits-swap (ends (just 4) s) (Asks (Sound (columns g) s) (ends (just 14) (cleared s)) next) o to back a.1)

-- a refusal by one of them, whatever else the call is lent and does
abbrev Nothing : Outcome → Type 0
Nothing o = ⊥

module _ {O : Type 0} (ends : Said → Store → O) (g : Grid) (F : Type 0) (s : Store) (next : O → Type 0) (said : Said) (s' : Store) where
  ended : (r : Said) (t : Store) → left said s' ≡ left r t → ends said s' ≡ ends r t
  ended r t e = ap (λ (o : Outcome). ends o.said o.store) e

  refused-sound : Asks (Sound (columns g) s) (left (just 14) (cleared s)) Nothing (left said s') → Asks (Sound (columns g) s) (ends (just 14) (cleared s)) next (ends said s')
  refused-sound (inl a) = inl (a.0, ended (just 14) (cleared s) a.1)
  refused-sound (inr a) = absurd a.1

  refused-fits : Asks F (left (just 4) s) (Asks (Sound (columns g) s) (left (just 14) (cleared s)) Nothing) (left said s') → Asks F (ends (just 4) s) (Asks (Sound (columns g) s) (ends (just 14) (cleared s)) next) (ends said s')
  refused-fits (inl a) = inl (a.0, ended (just 4) s a.1)
  refused-fits (inr a) = inr (a.0, refused-sound a.1)

  pub admits-refused : Admits left g F s (λ o. ⊥) (left said s') → Admits ends g F s next (ends said s')
  admits-refused (inl a) = inl (a.0, ended (grid_says g) s a.1)
  admits-refused (inr a) = inr (a.0, refused-fits a.1)
