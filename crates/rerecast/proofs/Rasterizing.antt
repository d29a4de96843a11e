-- What the rasteriser's inner functions owe one another: how many insertions a step can have made, what a cut that is no error gives, a turn of the loops
-- over rows and columns, and the numbers that are handed on.
use mathlib.Core.Path.{◌≡◌, refl, sym, ap, subst, ◌∙◌}
use mathlib.Core.List.{List}
use Prim.Native.Nat.{ℕ, ◌+◌, ◌-◌, ◌*◌, ◌≤◌, ◌<◌}
use native.Mathlib.Omega.{arith}
use lib.IntN.{ℤ}
use lib.Ieee.{Float}
use lib.ListN.{length}
use mir.Syntax.{w16, w32}
use mir.Val.{SFits, to_z, of_z}
use mir.ValLaws.{to_z-of_z}
use borrow.Author.Tests.{leb-true}
use Rattle.std.specs.Prelude.{Result, Ok, Err}
use Rattle.grid.specs.declared.Corner.{Corner}
use Rattle.grid.specs.declared.Grid.{Grid}
use Rattle.clip.specs.declared.cut.Axis.{Axis}
use Rattle.clip.specs.declared.frame.Frame.{Frame}
use Rattle.clip.specs.Cut.{parts, first_of, second_of, slice_cut, verdict_of}
use Rattle.clip.specs.Slices.{cell_of, edge_of, held_last}
use Rattle.clip.specs.Work.{Event, and_then, within, frame_of}
use Rattle.clip.proofs.Holds.{held-le}
use Rattle.clip.proofs.Rounds.{cut-fits, verdict-ok}
use Rattle.field.specs.Slots.{Slots}
use Rattle.field.specs.Field.{Field}
use Rattle.field.specs.Carrying.{Carried, carry}
use Rattle.field.specs.Working.{Remains, numbered, turn_events}
use Rattle.field.proofs.Carrying.{made_in, made-few, remains-then}
use Rattle.rerecast.specs.Rasterize.{made_by, left_by, Carries, CutsOff, Sides, Ready}
use Rattle.rerecast.specs.declared.turns.Job.{Job}
use Rattle.rerecast.specs.declared.turns.Halt.{Halt}

-- ---- what a step says

-- once it is over nothing is made any more
over : (job : Job) (r : Result ℕ Halt) (g : Field) → made_in (carry job.frame.width job.threshold job.area (made_by r) g (left_by r)) ≡ made_by r
unfolding carry
over job (Ok made) g = refl
over job (Err halt) g = refl

-- no more insertions than the work has
pub step-most : (job : Job) (made : ℕ) (f : Field) (es : List Event) (r : Result ℕ Halt) {heads : List ℕ} {t : Slots} → Carries job made f es r heads t
    → made_by r ≤ made + length es
step-most job made f es r R = made-few job.frame.width job.threshold job.area made f es (left_by r) (λ g. over job r g) R

-- what remains, whatever the step says
pub cuts-off : (axis : Axis) (offset : Float) (vs rest : List Corner) (r : Result ℕ Halt) → (rest ≡ second_of axis offset vs) × (length rest ≤ 7)
    → CutsOff axis offset vs rest r
cuts-off axis offset vs rest (Ok made) more = more
cuts-off axis offset vs rest (Err halt) more = tt

-- ---- a cut that is no error, at an offset that was handed on

module _ (axis : Axis) {offset end : Float} (vs : List Corner) (at : offset ≡ end) {u : Unit {0}} (fine : Ok u ≡ verdict_of (slice_cut axis offset vs)) where
  pub cut-parts : slice_cut axis end vs ≡ parts (first_of axis end vs) (second_of axis end vs)
  cut-parts = rw (← at) (cut-fits axis offset vs (verdict-ok axis offset vs fine))

  pub part-few : length (first_of axis end vs) ≤ 7
  part-few = rw (← at) (leb-true (length (first_of axis offset vs)) 7 (verdict-ok axis offset vs fine).first_fits)

  pub rest-few : (rest : List Corner) → rest ≡ second_of axis offset vs → (rest ≡ second_of axis end vs) × (length rest ≤ 7)
  rest-few rest e = rw (e, ← at) (refl, leb-true (length (second_of axis offset vs)) 7 (verdict-ok axis offset vs fine).second_fits)

  pub turn-is : (gives : ℕ → List Corner → List Event) (k : ℕ) → turn_events (slice_cut axis end vs) gives k ≡ within gives (numbered k) (first_of axis end vs)
  turn-is gives k = rw cut-parts

-- ---- a turn of the loop over rows or columns, which takes the work `near` off what is left

module _ (job : Job) {es : List Event} (near more : List Event) (e : es ≡ and_then near more) (count : ℕ) {o : Carried} {heads : List ℕ} {t : Slots}
    (R : Remains job.frame.width job.threshold job.area o count es heads t) {heads' : List ℕ} {t' : Slots} where
  turned : (r : Result ℕ Halt) → Carries job count R.field near r heads' t'
      → Remains job.frame.width job.threshold job.area o (made_by r) (and_then (left_by r) more) heads' t'
  turned r C =
      remains-then job.frame.width job.threshold job.area count R.field near more
      (ap (λ (l : List Event). carry job.frame.width job.threshold job.area count R.field l) (sym e) ∙ R.comes) C

  pub turn-went : (m : ℕ) → Carries job count R.field near (Ok m) heads' t' → Remains job.frame.width job.threshold job.area o m more heads' t'
  unfolding and_then
  turn-went m C = turned (Ok m) C

  pub turn_stopped : (halt : Halt) → Carries job count R.field near (Err halt) heads' t'
      → Remains job.frame.width job.threshold job.area o halt.made (left_by (Err halt)) heads' t'
  unfolding and_then
  turn_stopped halt C = turned (Err halt) C

-- ---- the frame

-- a frame over the first heads of a store
pub framed : (g : Grid) (w h : ℕ) {f : Frame} {heads : List ℕ} → f ≡ frame_of g w h → Sides w h → length heads ≡ w * h → Ready f heads
unfolding frame_of
framed g w h {f} {heads} e s n = subst (λ (k : Frame). Ready k heads) (sym e) (record { sides = s; all = n })

-- ---- numbers and coordinates that are handed on

-- the cell of a coordinate, which `cell_at` was asked about
pub cell-read : (start inverse : Float) {i : ℤ} {v w : Float} → SFits w32 i → i ≡ cell_of start inverse v → v ≡ w
    → to_z w32 (of_z w32 i) ≡ cell_of start inverse w
cell-read start inverse {i} fits e is = to_z-of_z w32 i fits ∙ e ∙ ap (λ (y : Float). cell_of start inverse y) is

-- where row or column `at` ends, which `edge` was asked about
pub edge-read : (start size : Float) {i at : ℤ} {end : Float} → SFits w16 i → i ≡ at → end ≡ edge_of start size (to_z w16 (of_z w16 i))
    → end ≡ edge_of start size at
edge-read start size {i} fits is e = e ∙ ap (λ (j : ℤ). edge_of start size j) (to_z-of_z w16 i fits ∙ is)

-- the last row or column is one of the grid's
pub last-inside : (n : ℕ) (i : ℤ) {last : ℕ} → 0 < n → last ≡ held_last (n - 1) i → last + 1 ≤ n
last-inside n i some e = omega (arith, e, held-le 0 (n - 1) i (omega arith))
