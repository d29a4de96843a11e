-- What `find` gives of several numbers is what their test finds; and two such tests, one after the other, are one.
use Rattle.std.proofs.Common.{◌≡◌, Bool, true, false, not, cond, List, [], ◌∷◌, ◌++◌, Option, Some, None, refl, sym, ◌∙◌, ap}
use Rattle.std.specs.Prelude.{find, map, Float}
use Rattle.std.specs.Option.{option_or}
use Rattle.replies.specs.Said.{Said, real, say}
use Rattle.grid.specs.Grid.{Tested, first_outside}
use Rattle.grid.specs.Answer.{Finds, unless}

-- a number with its test
abbrev pub tested : (Float → Bool) → Float → Tested
tested inside x = record { number = x; inside = inside x }

pub finds : (inside : Float → Bool) (xs : List Float) → Finds (find (λ x. not (inside x)) xs) (map (tested inside) xs)
unfolding first_outside
finds inside [] next = refl
finds inside (x ∷ xs) next = go (inside x) _ _ (finds inside xs next)
  where
    go : (b : Bool) (o : Option Float) (s : Said) → unless o next ≡ s → unless (cond (not b) (Some x) o) next ≡ cond b s (say 1 (real x ∷ []))
    go true o s e = e
    go false o s e = refl

pub in_turn : (ts us : List Tested) (next : Said) → first_outside (ts ++ us) next ≡ first_outside ts (first_outside us next)
unfolding first_outside
in_turn [] us next = refl
in_turn (t ∷ ts) us next = ap (λ (s : Said). cond t.inside s (say 1 (real t.number ∷ []))) (in_turn ts us next)

-- a second test, made where the first finds nothing
pub both_find : (o p : Option Float) (ts us : List Tested) → Finds o ts → Finds p us → Finds (option_or o p) (ts ++ us)
both_find None p ts us f g next = g next ∙ f (first_outside us next) ∙ sym (in_turn ts us next)
both_find (Some x) p ts us f g next = f (first_outside us next) ∙ sym (in_turn ts us next)

-- a number was found, or none
pub found : (ts : List Tested) {r : Option Float} {x : Float} → Finds r ts → r ≡ Some x → (next : Said) → first_outside ts next ≡ say 1 (real x ∷ [])
found ts f e next = sym (f next) ∙ ap (λ (o : Option Float). unless o next) e

pub none_found : (ts : List Tested) {r : Option Float} → Finds r ts → r ≡ None → (next : Said) → first_outside ts next ≡ next
none_found ts f e next = sym (f next) ∙ ap (λ (o : Option Float). unless o next) e
