-- No second outcome of compacting: the answer and all that is left are fixed by what the call is given.
use mathlib.Core.Path.{◌≡◌, sym, subst, ◌∙◌}
use mathlib.Core.List.{flatten}
use Prim.Native.Nat.{ℕ}
use lib.ListN.{length}
use lib.Ieee.{Float}
use Rattle.replies.specs.Said.{just, Asks}
use Rattle.replies.proofs.Laws.{One, asks-one}
use Rattle.grid.specs.declared.Grid.{Grid}
use Rattle.grid.specs.Grid.{width, height, columns}
use Rattle.field.specs.Field.{Field}
use Rattle.field.specs.Store.{Store, cleared}
use Rattle.field.specs.Open.{columns_of, cells}
use Rattle.field.specs.Links.{passes, largest_missed}
use Rattle.field.specs.Compact.{Result, Suiting, Room, Few, complete, Outcome, outcome, keeping, raised_top, complete_says, Compacts, Compacted}
use Rattle.field.proofs.Unique.{field_fixed}
use Rattle.field.proofs.Outcomes.{admits-one}

same-as : (o : Outcome) → One (λ (p : Outcome). p ≡ o)
same-as o p q a b = a ∙ sym b

module _ (w h : ℕ) (top : Float) (tall climb : ℕ) (s : Store) (t : Result) where
  -- the tests that are left, of one field
  abbrev Tests : Field → Outcome → Type 0
  Tests f =
      let pass = passes tall climb in
      let cs = cells (columns_of f) in
      Asks (Few cs) (keeping t (just 11) (cleared s))
      (Asks (Room (length (flatten cs)) t.rows) (keeping t (just 15) (cleared s))
      (λ o. o ≡ outcome (complete_says (largest_missed pass w h cs) top) (cleared s) (complete pass w h (columns_of f) t)))

  tests-one : (f : Field) → One (Tests f)
  tests-one f =
      asks-one (Few (cells (columns_of f))) (keeping t (just 11) (cleared s)) _
      (asks-one (Room (length (flatten (cells (columns_of f)))) t.rows) (keeping t (just 15) (cleared s)) _ (same-as _))

  -- a store holds one field
  pub compacts-one : One (Compacts w h top tall climb s t)
  compacts-one o o' a b =
      let e : b.0 ≡ a.0 = field_fixed b.1 a.1 in
      tests-one a.0 o o' a.2 (subst (λ (f : Field). Tests f o') e b.2)

pub compacted-one : (g : Grid) (tall climb : ℕ) (s : Store) (t : Result) → One (Compacted g tall climb s t)
compacted-one g tall climb s t =
    admits-one (keeping t) g (Suiting (columns g) s t) s (Compacts (width g) (height g) (raised_top g tall) tall climb s t)
    (compacts-one (width g) (height g) (raised_top g tall) tall climb s t)
