-- The tests in front of a call: what their answer tells, and the call that goes on from it.
use mathlib.Core.Path.{◌≡◌, refl}
use mathlib.Core.Logic.{inr}
use mathlib.Core.List.{List}
use Prim.Native.Nat.{ℕ, ◌*◌}
use lib.ListN.{length, replicate}
use Rattle.std.specs.Prelude.{Result, Ok, Err}
use Rattle.replies.specs.Said.{Said, just, Asks}
use Rattle.grid.specs.declared.Grid.{Grid}
use Rattle.grid.specs.declared.sizes.Size.{Size}
use Rattle.grid.specs.Grid.{width, height, columns, grid_says}
use Rattle.grid.specs.Answer as grids
use Rattle.grid.proofs.Accepted.{fine}
use Rattle.field.specs.declared.Span.{Span}
use Rattle.field.specs.Slots.{Slots, slots}
use Rattle.field.specs.Store.{Store, store, Fits, Fitting, left}
use Rattle.field.specs.Calls.{Made, made, IsFresh, Freshened, Offers, Added}
use Rattle.field.proofs.Admitting.{admits-past, admits-swap, admits-refused}
use Rattle.rerecast.specs.Answer.{refusal_says}
use Rattle.rerecast.specs.declared.Refusal.{Refusal}
use Rattle.rerecast.specs.declared.lent.Slots as lent
use Rattle.rerecast.specs.Lent.{slots_of}
use Rattle.rerecast.specs.Inner.{Fitted, AdmitsStore, AdmitsCall}
use Rattle.rerecast.proofs.GivenBack.{GivenBack, given-back}

-- an accepted grid tells its size
pub granted : (g : Grid) (size : Size) → grids.said_of (Ok size) ≡ grid_says g → ((grid_says g).number ≡ 0) × ((size.width ≡ width g) × (size.height ≡ height g))
granted g size says = let k = fine g (Ok size) says size refl in (k.0.taken, k.1)

-- the store's tests, past the grid's: a call that these accept goes on with the size
abbrev pub with_size : Size → Result Unit Refusal → Result Size Refusal
with_size size (Ok done) = Ok size
with_size size (Err q) = Err q

pub admits-call : (r : Result Unit Refusal) (g : Grid) (size : Size) (shortest : ℕ) (s : Store) (marks' : List ℕ) → ((grid_says g).number ≡ 0) × ((size.width ≡ width g) × (size.height ≡ height g)) → AdmitsStore r (size.width * size.height) shortest s marks' → AdmitsCall (with_size size r) g shortest s marks'
admits-call (Ok done) g size shortest s marks' k A = (k.0, (k.1, rw (k.1.0, k.1.1) at A))
admits-call (Err q) g size shortest s marks' k A = inr (k.0, rw (k.1.0, k.1.1) at A)

-- a fresh field: past the grid's tests
pub freshened : (g : Grid) (w h : ℕ) (heads : List ℕ) (t : Slots) (o : Made) → ((grid_says g).number ≡ 0) × ((w ≡ width g) × (h ≡ height g)) → Asks (Fits (w * h) heads t) (made (just 4) heads t) (IsFresh (w * h) heads t) o → Freshened g heads t o
freshened g w h heads t o k A = inr (k.0, rw (k.1.0, k.1.1) at A)

-- the same, where the slots are given back one by one
pub fresh-left : (g : Grid) (size : Size) → grids.said_of (Ok size) ≡ grid_says g → (heads : List ℕ) (t : Slots) (said : Said) (heads' : List ℕ) (t' : lent.Slots) {free : ℕ} {fl ce ar nx : List ℕ} → GivenBack t' free fl ce ar nx
    → Asks (Fits (size.width * size.height) heads t) (made (just 4) heads t) (IsFresh (size.width * size.height) heads t) (made said heads' (slots_of t'))
    → Freshened g heads t (made said heads' (slots free fl ce ar nx))
fresh-left g size says heads t said heads' t' back A = rw (given-back t' back) (freshened g size.width size.height heads t (made said heads' (slots_of t')) (granted g size says) A)

-- one span: refused by a test
pub added-refused : (q : Refusal) (g : Grid) (x z : ℕ) (new : Span) (th : ℕ) (s : Store) (marks' : List ℕ) → AdmitsCall (Err q) g (length s.heads) s marks' → Added g x z new th s (left (refusal_says q) (store s.heads s.slots marks'))
added-refused q g x z new th s marks' A =
    let s' = store s.heads s.slots marks' in
    admits-swap left g s (Offers (width g) (height g) x z new th s) (left (refusal_says q) s') (λ (f : Fitted (columns g) (length s.heads) s). f.0) (λ (f : Fitting (columns g) s). (f, f.fits.enough))
    (admits-refused left g (Fitted (columns g) (length s.heads) s) s (Offers (width g) (height g) x z new th s) (refusal_says q) s' A)

-- one span: past all tests
pub added-offered : (g : Grid) (size : Size) (x z : ℕ) (new : Span) (th shortest : ℕ) (s : Store) (marks' heads' : List ℕ) (t' : lent.Slots) (said : Said) {free : ℕ} {fl ce ar nx : List ℕ}
    → GivenBack t' free fl ce ar nx → AdmitsCall (Ok size) g shortest s marks'
    → ((marks : List ℕ) → Offers size.width size.height x z new th (store s.heads s.slots marks) (left said (store heads' (slots_of t') (replicate (length s.slots.nexts) 0))))
    → Added g x z new th s (left said (store heads' (slots free fl ce ar nx) marks'))
added-offered g size x z new th shortest s marks' heads' t' said back A O =
    admits-past left g s (Offers (width g) (height g) x z new th s) (left said (store heads' _ marks')) A.0 A.1.1.fits.0 A.1.1.sound
    (rw (given-back t' back, A.1.1.zeros, ← A.1.0.0, ← A.1.0.1) (O s.marks))
