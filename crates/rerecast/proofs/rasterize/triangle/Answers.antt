-- `rasterize::triangle` meets its contract.
use mathlib.Core.Path.{◌≡◌, sym, ◌∙◌}
use mathlib.Core.Bool.{true}
use mathlib.Core.List.{List, [], ◌∷◌, map}
use Prim.Native.Nat.{ℕ, ◌+◌, ◌-◌}
use native.Mathlib.Omega.{arith}
use lib.IntN.{ℤ}
use lib.Ieee.{Float}
use mir.Syntax.{w32}
use mir.Val.{SFits, to_z, of_z}
use Rattle.grid.specs.declared.Corner.{Corner}
use Rattle.clip.specs.declared.cut.Axis.TheVariants.{Z}
use Rattle.clip.specs.declared.frame.Frame.{Frame}
use Rattle.clip.specs.Cut.{z_of}
use Rattle.clip.specs.Slices.{least_of, greatest_of, cell_of, held_first, held_last}
use Rattle.clip.specs.Work.{edge_at, row_events, triangle_events, meets_of}
use Rattle.field.specs.Working.{numbered, turns_to}
use Rattle.field.proofs.Carrying.{remains-is, remains-of}
use Rattle.field.proofs.Cells.{triangle-missed, triangle-turns}
use Rattle.rerecast.proofs.Rasterizing.{cell-read, last-inside}
use Rattle.rerecast.proofs.rasterize.triangle.Goals as goal

-- a triangle's rows, from z₀ to z₁ as they are handed on
turns : (f : Frame) (vs : List Corner) {z₀ z₁ : ℤ} (s₀ : SFits w32 z₀) (s₁ : SFits w32 z₁) {v₀ v₁ : Float}
    → v₀ ≡ least_of (map z_of vs) → v₁ ≡ greatest_of (map z_of vs)
    → z₀ ≡ cell_of f.grid.min.z f.inverse v₀ → z₁ ≡ cell_of f.grid.min.z f.inverse v₁ → meets_of f vs ≡ true
    → (first last : ℕ) → numbered first ≡ held_first (f.height - 1) (to_z w32 (of_z w32 z₀)) → last ≡ held_last (f.height - 1) (to_z w32 (of_z w32 z₁))
    → triangle_events f vs ≡ turns_to Z (edge_at f Z) (row_events f) (last + 1) first vs
turns f vs s₀ s₁ least greatest e₀ e₁ h first last p q =
    let first-is = cell-read f.grid.min.z f.inverse s₀ e₀ least in
    let last-is = cell-read f.grid.min.z f.inverse s₁ e₁ greatest in
    triangle-turns f vs h first last (rw first-is at p) (rw last-is at q)

pub returns-then-not-meets-clause-carries : goal.returns-then-not-meets-clause-carries
returns-then-not-meets-clause-carries c others f H =
    let a = c.args in
    remains-is a.job.frame.width a.job.threshold a.job.area 0 (triangle-missed a.job.frame (a.a ∷ a.b ∷ a.c ∷ []) (sym c.meets.ensures ∙ c.if-not-meets.true)) H

pub overflow_add-last : goal.overflow_add-last
overflow_add-last c =
    let sides = c.requires.ready.sides in
    record { fits = omega (arith, last-inside c.args.job.frame.height _ sides.some-high c.held_last-last.ensures, sides.high) }

pub rows-requires-clause-ready : goal.rows-requires-clause-ready
rows-requires-clause-ready c =
    (c.requires.ready, rw c.begin.ensures (omega arith), last-inside c.args.job.frame.height _ c.requires.ready.sides.some-high c.held_last-last.ensures)

pub returns-clause-carries : goal.returns-clause-carries
returns-clause-carries c others f H =
    let a = c.args in
    let vs : List Corner = a.a ∷ a.b ∷ a.c ∷ [] in
    let z₀ = c.cell_at-z0 in
    let z₁ = c.cell_at-z1 in
    let least : c.least_of.result ≡ least_of (map z_of vs) = c.least_of.ensures in
    let greatest : c.greatest_of.result ≡ greatest_of (map z_of vs) = c.greatest_of.ensures in
    let each = turns a.job.frame vs (record { sfits = z₀.type_inv }) (record { sfits = z₁.type_inv }) least greatest z₀.ensures z₁.ensures (sym c.meets.ensures ∙ c.if-not-meets.false)
    c.first_of-first.result c.held_last-last.result c.first_of-first.ensures c.held_last-last.ensures in
    remains-of a.job.frame.width a.job.threshold a.job.area 0 f each (rw c.begin.ensures at (c.rows.ensures.carries others f H))
