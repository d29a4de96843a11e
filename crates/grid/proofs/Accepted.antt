-- What a caller knows of a grid that was accepted or refused.
use mathlib.Core.Path.{◌≡◌, refl, sym, ap, ◌∙◌}
use mathlib.Core.Bool.{Bool, true, false, cond}
use mathlib.Core.List.{List, [], ◌∷◌}
use Rattle.std.proofs.Common.{Result, Ok, Err}
use Prim.Native.Nat.{ℕ, suc, ◌≤◌, ◌<◌}
use native.Mathlib.Omega.{arith}
use lib.Ieee.{lt}
use Rattle.replies.specs.Said.{Said, Value, whole, real, say, just}
use Rattle.grid.specs.Grid.{coordinate_ok, cell_ok, width, height, columns, sized, box_above, size_says, first_outside, Tested, numbers, grid_says}
use Rattle.grid.specs.Answer.{said_of, said_of_error}
use Rattle.grid.specs.declared.Corner.{Corner}
use Rattle.grid.specs.declared.Grid.{Grid}
use Rattle.grid.specs.declared.sizes.Size.{Size}
use Rattle.grid.specs.declared.GridError.{GridError}
use Rattle.grid.proofs.Answers.{is_refusal, said-once}
use Rattle.grid.proofs.Cells.{width-le, height-le, size-facts}
use Rattle.grid.proofs.Replies.{Inside, all_pass, says-zero}
use Rattle.ops.proofs.Tests.{none_of}

-- a corner inside its limits
pub record Within (p : Corner) : Type 0 where
  pub x-ok : coordinate_ok p.x ≡ true
  pub y-ok : coordinate_ok p.y ≡ true
  pub z-ok : coordinate_ok p.z ≡ true

-- an accepted grid
pub record Accepted (g : Grid) : Type 0 where
  pub taken : (grid_says g).number ≡ 0
  pub wide : 0 < width g
  pub wide-le : width g ≤ 4096
  pub high : 0 < height g
  pub high_le : height g ≤ 4096
  pub columns-le : columns g ≤ 1048576
  pub said : grid_says g ≡ say 0 (whole (width g) ∷ whole (height g) ∷ [])
  pub least : Within g.min
  pub greatest : Within g.max
  pub size_ok_lem : cell_ok g.cell_size ≡ true
  pub tall-ok : cell_ok g.cell_height ≡ true
  pub x-order : lt g.max.x g.min.x ≡ false
  pub y-order : lt g.max.y g.min.y ≡ false
  pub z-order : lt g.max.z g.min.z ≡ false

-- ---- the tests, one after the other: number 0 is given only where none of them refuses

passes : (b : Bool) (next : Said) (n : ℕ) (vs : List Value) → (cond b next (say (suc n) vs)).number ≡ 0 → b ≡ true
passes true next n vs e = refl
passes false next n vs e = absurd (omega (arith, e))

fails : (b : Bool) (next : Said) (n : ℕ) (vs : List Value) → (cond b (say (suc n) vs) next).number ≡ 0 → b ≡ false
fails true next n vs e = absurd (omega (arith, e))
fails false next n vs e = refl

all-inside : (ts : List Tested) (next : Said) → (first_outside ts next).number ≡ 0 → Inside ts
unfolding first_outside
all-inside [] next e = tt
all-inside (t ∷ ts) next e =
    let h = passes t.inside (first_outside ts next) 0 (real t.number ∷ []) e in
    (h, all-inside ts next (rw h at e))

pub accepted : (g : Grid) → (grid_says g).number ≡ 0 → Accepted g
unfolding grid_says size_says box_above
accepted g e =
    let min = all-inside (numbers g) (cond (box_above g) (just 2) (size_says g)) e in
    let ordered : box_above g ≡ false = fails (box_above g) (size_says g) 1 [] (rw (all_pass (numbers g) _ min) at e) in
    let fit : sized g ≡ true = passes (sized g) _ 2 _ (rw (all_pass (numbers g) _ min, ordered) at e) in
    let max = min.1.1.1 in
    let cell = max.1.1.1 in
    let box = none_of (lt g.max.x g.min.x) _ ordered in
    let box2 = none_of (lt g.max.y g.min.y) _ box.1 in
    let counts = size-facts (width g) (height g) fit in
    record {
      taken = e;
      wide = counts.0;
      wide-le = width-le g;
      high = counts.1.0;
      high_le = height-le g;
      columns-le = counts.1.1;
      said = says-zero g min ordered fit;
      least = record { x-ok = min.0; y-ok = min.1.0; z-ok = min.1.1.0 };
      greatest = record { x-ok = max.0; y-ok = max.1.0; z-ok = max.1.1.0 };
      size_ok_lem = cell.0;
      tall-ok = cell.1.0;
      x-order = box.0;
      y-order = box2.0;
      z-order = box2.1;
    }

-- ---- what an answer of `check` tells its caller

-- an accepted grid's size
abbrev pub size_of : (g : Grid) → Accepted g → Size
size_of g a = record { width = width g; height = height g; few = a.columns-le }

module _ (g : Grid) (r : Result Size GridError) (says : said_of r ≡ grid_says g) where
  pub fine : (s : Size) → r ≡ Ok s → Accepted g × ((s.width ≡ width g) × (s.height ≡ height g))
  fine s e =
      let fact : grid_says g ≡ said_of (Ok s) = sym says ∙ ap said_of e in
      let a = accepted g (ap (λ (s : Said). s.number) fact) in
      let same : (whole s.width ∷ whole s.height ∷ []) ≡ (whole (width g) ∷ whole (height g) ∷ []) = ap (λ (s : Said). s.values) (sym fact ∙ a.said) in
      (a, (cc, cc))

  -- an accepted grid has no other answer
  pub answered : (a : Accepted g) → r ≡ Ok (size_of g a)
  answered a = said-once r (Ok (size_of g a)) (says ∙ a.said)

  -- every other answer is a refusal, and says so
  pub refused : (e : GridError) → r ≡ Err e → ((grid_says g).number ≡ 0 → ⊥) × (said_of_error e ≡ grid_says g)
  refused e q =
      let fact : said_of_error e ≡ grid_says g = ap said_of (sym q) ∙ says in
      (λ z. is_refusal e (ap (λ (s : Said). s.number) fact ∙ z), fact)
