-- `rows::row_at` meets its contract.
use mathlib.Core.Path.{◌≡◌, refl, sym, ap, ◌∙◌}
use mathlib.Core.List.{List}
use Prim.Native.Nat.{ℕ, ◌-◌, ◌≤◌}
use native.Mathlib.Omega.{arith}
use lib.IntN.{ℤ}
use lib.Ieee.{Float}
use lib.ListN.{length}
use mir.Syntax.{w16}
use mir.Val.{SFits, to_z, of_z}
use Rattle.std.specs.Prelude.{Ok}
use Rattle.grid.specs.declared.Corner.{Corner}
use Rattle.clip.specs.declared.cut.Axis.TheVariants.{Z}
use Rattle.clip.specs.declared.frame.Frame.{Frame}
use Rattle.clip.specs.Cut.{first_of, slice_cut, verdict_of}
use Rattle.clip.specs.Rest.{left}
use Rattle.clip.specs.Slices.{edge_of}
use Rattle.clip.specs.Work.{edge_at, row_events}
use Rattle.field.specs.Working.{numbered}
use Rattle.field.proofs.Carrying.{remains-is, remains-of}
use Rattle.rerecast.proofs.Rasterizing.{edge-read, cuts-off, turn-is, part-few, rest-few}
use Rattle.rerecast.proofs.rows.row_at.Goals as goal

-- the cut is at the end of row k
end-is : (f : Frame) (k : ℕ) {i : ℤ} {end : Float} → SFits w16 i → i ≡ numbered k → end ≡ edge_of f.grid.min.z f.grid.cell_size (to_z w16 (of_z w16 i))
    → end ≡ edge_at f Z (numbered k)
end-is f k fits is e = edge-read f.grid.min.z f.grid.cell_size fits is e

-- what is seen of the row that the cut made is what is cut off there
row-seen : (vs : List Corner) {offset end : Float} (at : offset ≡ end) {u : Unit {0}} (fine : Ok u ≡ verdict_of (slice_cut Z offset vs)) {seen : List Corner}
    → (length (first_of Z offset vs) ≤ 14 → seen ≡ first_of Z offset vs) → seen ≡ first_of Z end vs
row-seen vs {offset} at fine whole =
    whole (omega (arith, part-few Z vs refl fine)) ∙ ap (λ (y : Float). first_of Z y vs) at

pub returns-then-gives_nothing-clause-carries : goal.returns-then-gives_nothing-clause-carries
returns-then-gives_nothing-clause-carries c others f H =
    let a = c.args in
    let g = a.job.frame in
    let end = end-is g a.k (record { sfits = c.number.type_inv }) c.number.ensures c.edge-end.ensures in
    let cut = c.in_default.ensures in
    let seen = row-seen (left a.rests.now.triangle) end cut.verdict (λ few. c.vertices.ensures.whole a.rests.now.row _ few cut.part) in
    remains-is g.width a.job.threshold a.job.area a.made
    (turn-is Z _ end cut.verdict (row_events g) a.k ∙ c.if-gives_nothing.ensures (row_events g) _ (ap length (sym seen))) H

pub returns-then-gives_nothing-clause-cuts_off : goal.returns-then-gives_nothing-clause-cuts_off
returns-then-gives_nothing-clause-cuts_off c =
    let a = c.args in
    let end = end-is a.job.frame a.k (record { sfits = c.number.type_inv }) c.number.ensures c.edge-end.ensures in
    rest-few Z _ end c.in_default.ensures.verdict _ c.in_default.ensures.rest

pub row-requires-clause-ready : goal.row-requires-clause-ready
row-requires-clause-ready c =
    let a = c.args in
    let ready = c.requires.ready in
    let end = end-is a.job.frame a.k (record { sfits = c.number.type_inv }) c.number.ensures c.edge-end.ensures in
    let cut = c.in_default.ensures in
    let seen = row-seen (left a.rests.now.triangle) end cut.verdict (λ few. c.vertices.ensures.whole a.rests.now.row _ few cut.part) in
    (ready.0, omega (arith, ready.1, c.if-gives_nothing.ensures.0), omega (arith, ap length seen, ap length c.vertices.ensures.value, part-few Z _ end cut.verdict), ready.2)

pub returns-clause-carries : goal.returns-clause-carries
returns-clause-carries c others f H =
    let a = c.args in
    let g = a.job.frame in
    let end = end-is g a.k (record { sfits = c.number.type_inv }) c.number.ensures c.edge-end.ensures in
    let cut = c.in_default.ensures in
    let seen = row-seen (left a.rests.now.triangle) end cut.verdict (λ few. c.vertices.ensures.whole a.rests.now.row _ few cut.part) in
    remains-of g.width a.job.threshold a.job.area a.made f
    (turn-is Z _ end cut.verdict (row_events g) a.k
    ∙ c.if-gives_nothing.ensures.1 (row_events g) _ (ap length (sym seen))
    ∙ ap (λ (vs : List Corner). row_events g (a.k - 1) vs) (sym seen ∙ c.vertices.ensures.value))
    (c.row.ensures.carries others f H)

pub returns-clause-cuts_off : goal.returns-clause-cuts_off
returns-clause-cuts_off c =
    let a = c.args in
    let end = end-is a.job.frame a.k (record { sfits = c.number.type_inv }) c.number.ensures c.edge-end.ensures in
    cuts-off Z _ _ _ c.row.result (rest-few Z _ end c.in_default.ensures.verdict _ c.in_default.ensures.rest)
