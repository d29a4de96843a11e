-- No second outcome: each public call's answer and all that it leaves are fixed by what it is given.
use mathlib.Core.Path.{◌≡◌, sym, subst, ◌∙◌}
use mathlib.Core.Bool.{true}
use mathlib.Core.List.{List}
use Prim.Native.Nat.{ℕ, ◌+◌, ◌*◌, ◌<◌, ◌≤◌}
use lib.ListN.{take, drop, take-append-drop}
use Rattle.replies.specs.Said.{Said, just, Asks}
use Rattle.replies.proofs.Laws.{One, asks-one}
use Rattle.grid.specs.declared.Grid.{Grid}
use Rattle.grid.specs.Grid.{width, height, columns, grid_says}
use Rattle.field.specs.declared.Span.{Span}
use Rattle.field.specs.Slots.{Slots}
use Rattle.field.specs.Field.{Field, insert}
use Rattle.field.specs.Store.{Store, Fits, Fitting, Sound, cleared, left, Admits, Ends, Becomes}
use Rattle.field.specs.Calls.{made, IsFresh, Freshened, Inserts, Offers, Added}
use Rattle.field.proofs.Unique.{store-fixed, field_fixed}

-- heads of which the first n and the others are the same
pub same-heads : (n : ℕ) (a b : List ℕ) → take n a ≡ take n b → drop n a ≡ drop n b → a ≡ b
same-heads n a b p q = sym (take-append-drop n a) ∙ rw (p, q) (take-append-drop n b)

-- what the tests of every call leave open is what comes after them
pub admits-one : {O : Type 0} (ends : Said → Store → O) (g : Grid) (Fitted : Type 0) (s : Store) (next : O → Type 0) → One next → One (Admits ends g Fitted s next)
admits-one ends g Fitted s next one =
    asks-one ((grid_says g).number ≡ 0) (ends (grid_says g) s) _
    (asks-one Fitted (ends (just 4) s) _
    (asks-one (Sound (columns g) s) (ends (just 14) (cleared s)) next one))

pub ends-one : (n : ℕ) (s : Store) (said : Said) (f : Field) → One (Ends n s said f)
ends-one n s said f o o' a b =
    let k = store-fixed a.holds b.holds in
    let heads = same-heads n o.store.heads o'.store.heads k.0 (a.beyond ∙ sym b.beyond) in
    λ i.
    record {
      said = (a.says ∙ sym b.says) i;
      store = record { heads = heads i; slots = k.1 i; marks = (a.marks ∙ sym b.marks) i };
    }

pub becomes-one : (n : ℕ) (s : Store) (f : Field) → One (Becomes n s f)
becomes-one n s f = ends-one n s (just 0) f

pub inserts-one : (n i : ℕ) (new : Span) (th : ℕ) (s : Store) → One (Inserts n i new th s)
inserts-one n i new th s o o' a b =
    let e : b.0 ≡ a.0 = field_fixed b.1 a.1 in
    asks-one ((insert th a.0 i new).accepted ≡ true) (left (just 5) (cleared s)) (Becomes n s (insert th a.0 i new).field) (becomes-one n s (insert th a.0 i new).field) o o' a.2
    (subst (λ (f : Field). Asks ((insert th f i new).accepted ≡ true) (left (just 5) (cleared s)) (Becomes n s (insert th f i new).field) o') e b.2)

-- one span
pub added-one : (g : Grid) (x z : ℕ) (new : Span) (th : ℕ) (s : Store) → One (Added g x z new th s)
added-one g x z new th s =
    admits-one left g (Fitting (columns g) s) s (Offers (width g) (height g) x z new th s)
    (asks-one ((x < width g) × (z < height g)) (left (just 8) (cleared s)) _
    (asks-one (new.floor ≤ new.ceiling) (left (just 9) (cleared s)) _ (inserts-one (columns g) (x + z * width g) new th s)))

is-fresh-one : (n : ℕ) (heads : List ℕ) (t : Slots) → One (IsFresh n heads t)
is-fresh-one n heads t o o' a b =
    let k = store-fixed a.holds b.holds in
    let same = same-heads n o.heads o'.heads k.0 (a.beyond ∙ sym b.beyond) in
    λ i. record { said = (a.says ∙ sym b.says) i; heads = same i; slots = k.1 i }

-- a fresh field
pub freshened-one : (g : Grid) (heads : List ℕ) (t : Slots) → One (Freshened g heads t)
freshened-one g heads t =
    asks-one ((grid_says g).number ≡ 0) (made (grid_says g) heads t) _
    (asks-one (Fits (columns g) heads t) (made (just 4) heads t) _ (is-fresh-one (columns g) heads t))
