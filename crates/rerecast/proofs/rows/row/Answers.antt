-- `rows::row` meets its contract.
use mathlib.Core.Path.{◌≡◌, sym, ap, ◌∙◌}
use mathlib.Core.Bool.{true, false, ◌||◌}
use mathlib.Core.List.{List, [], map}
use Prim.Native.Nat.{ℕ, ◌+◌, ◌-◌}
use native.Mathlib.Omega.{arith}
use lib.IntN.{ℤ, pos}
use lib.Signed.{lt_z, le_z}
use lib.Ieee.{Float}
use mir.Syntax.{w32}
use mir.Val.{SFits, to_z, of_z}
use Rattle.grid.specs.declared.Corner.{Corner}
use Rattle.clip.specs.declared.cut.Axis.TheVariants.{X}
use Rattle.clip.specs.declared.frame.Frame.{Frame}
use Rattle.clip.specs.Cut.{x_of}
use Rattle.clip.specs.Rest.{left}
use Rattle.clip.specs.Slices.{least_of, greatest_of, cell_of, held_first, held_last}
use Rattle.clip.specs.Work.{first_cell, last_cell, edge_at, cell_events, row_events}
use Rattle.field.specs.Working.{numbered, turns_to}
use Rattle.field.proofs.Carrying.{remains-is, remains-of}
use Rattle.field.proofs.Cells.{row-missed, row-turns}
use Rattle.rerecast.proofs.Rasterizing.{cell-read, last-inside}
use Rattle.rerecast.proofs.rows.row.Goals as goal

-- a part whose xs reach from the column x₀ to the column x₁, as they are handed on
module _ (f : Frame) (z : ℕ) (part : List Corner) {x₀ x₁ : ℤ} (s₀ : SFits w32 x₀) (s₁ : SFits w32 x₁) {v₀ v₁ : Float}
    (least : v₀ ≡ least_of (map x_of part)) (greatest : v₁ ≡ greatest_of (map x_of part))
    (e₀ : x₀ ≡ cell_of f.grid.min.x f.inverse v₀) (e₁ : x₁ ≡ cell_of f.grid.min.x f.inverse v₁) where
  first-is : to_z w32 (of_z w32 x₀) ≡ first_cell f X part
  first-is = cell-read f.grid.min.x f.inverse s₀ e₀ least

  last-is : to_z w32 (of_z w32 x₁) ≡ last_cell f X part
  last-is = cell-read f.grid.min.x f.inverse s₁ e₁ greatest

  -- before the grid or behind it the part has no work
  missed : lt_z (to_z w32 (of_z w32 x₁)) (pos 0) || le_z (pos f.width) (to_z w32 (of_z w32 x₀)) ≡ true → row_events f z part ≡ []
  missed h = row-missed f z part (rw (first-is, last-is) at h)

  -- and otherwise that of the columns that it reaches
  turns : lt_z (to_z w32 (of_z w32 x₁)) (pos 0) || le_z (pos f.width) (to_z w32 (of_z w32 x₀)) ≡ false
      → (first last : ℕ) → numbered first ≡ held_first (f.width - 1) (to_z w32 (of_z w32 x₀)) → last ≡ held_last (f.width - 1) (to_z w32 (of_z w32 x₁))
      → row_events f z part ≡ turns_to X (edge_at f X) (cell_events f z) (last + 1) first part
  turns h first last a b = row-turns f z part (rw (first-is, last-is) at h) first last (rw first-is at a) (rw last-is at b)

pub returns-then-misses-clause-carries : goal.returns-then-misses-clause-carries
returns-then-misses-clause-carries c others f H =
    let a = c.args in
    let x₀ = c.cell_at-x0 in
    let x₁ = c.cell_at-x1 in
    let least : c.least_of.result ≡ least_of (map x_of (left a.part.now)) = c.least_of.ensures ∙ ap (λ (vs : List Corner). least_of (map x_of vs)) c.vertices-vs.ensures.value in
    let greatest : c.greatest_of.result ≡ greatest_of (map x_of (left a.part.now)) = c.greatest_of.ensures ∙ ap (λ (vs : List Corner). greatest_of (map x_of vs)) c.vertices-vs.ensures.value in
    let none = missed a.job.frame a.z (left a.part.now) (record { sfits = x₀.type_inv }) (record { sfits = x₁.type_inv }) least greatest x₀.ensures x₁.ensures (sym c.misses.ensures ∙ c.if-misses.true) in
    remains-is a.job.frame.width a.job.threshold a.job.area a.made none H

pub overflow_add-last : goal.overflow_add-last
overflow_add-last c =
    let sides = c.requires.ready.0.sides in
    record { fits = omega (arith, last-inside c.args.job.frame.width _ sides.some-wide c.held_last-last.ensures, sides.wide) }

pub columns-requires-clause-ready : goal.columns-requires-clause-ready
columns-requires-clause-ready c =
    let ready = c.requires.ready in
    (ready.0, ready.1, ready.2, last-inside c.args.job.frame.width _ ready.0.sides.some-wide c.held_last-last.ensures, ready.3)

pub returns-clause-carries : goal.returns-clause-carries
returns-clause-carries c others f H =
    let a = c.args in
    let x₀ = c.cell_at-x0 in
    let x₁ = c.cell_at-x1 in
    let least : c.least_of.result ≡ least_of (map x_of (left a.part.now)) = c.least_of.ensures ∙ ap (λ (vs : List Corner). least_of (map x_of vs)) c.vertices-vs.ensures.value in
    let greatest : c.greatest_of.result ≡ greatest_of (map x_of (left a.part.now)) = c.greatest_of.ensures ∙ ap (λ (vs : List Corner). greatest_of (map x_of vs)) c.vertices-vs.ensures.value in
    let each = turns a.job.frame a.z (left a.part.now) (record { sfits = x₀.type_inv }) (record { sfits = x₁.type_inv }) least greatest x₀.ensures x₁.ensures
    (sym c.misses.ensures ∙ c.if-misses.false) c.first_of-first.result c.held_last-last.result c.first_of-first.ensures c.held_last-last.ensures in
    remains-of a.job.frame.width a.job.threshold a.job.area a.made f each (c.columns.ensures.carries others f H)
