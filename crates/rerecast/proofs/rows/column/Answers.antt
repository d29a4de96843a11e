-- `rows::column` meets its contract.
use mathlib.Core.Path.{◌≡◌, ap, ◌∙◌}
use mathlib.Core.List.{List}
use Prim.Native.Nat.{ℕ}
use lib.IntN.{ℤ}
use lib.Ieee.{Float}
use mir.Syntax.{w16}
use mir.Val.{SFits, to_z, of_z}
use Rattle.grid.specs.declared.Corner.{Corner}
use Rattle.clip.specs.declared.cell.Piece.{Piece}
use Rattle.clip.specs.declared.cut.Axis.TheVariants.{X}
use Rattle.clip.specs.declared.frame.Frame.{Frame}
use Rattle.clip.specs.Cut.{first_of}
use Rattle.clip.specs.Cell.{piece_of}
use Rattle.clip.specs.Rest.{left}
use Rattle.clip.specs.Slices.{edge_of}
use Rattle.clip.specs.Work.{edge_at, cell_events}
use Rattle.field.specs.Working.{numbered}
use Rattle.field.proofs.Carrying.{remains-is, remains-of}
use Rattle.rerecast.proofs.Rasterizing.{edge-read, cuts-off, turn-is, rest-few}
use Rattle.rerecast.proofs.rows.column.Goals as goal

-- the cut is at the end of column k
end-is : (f : Frame) (k : ℕ) {i : ℤ} {end : Float} → SFits w16 i → i ≡ numbered k → end ≡ edge_of f.grid.min.x f.grid.cell_size (to_z w16 (of_z w16 i))
    → end ≡ edge_at f X (numbered k)
end-is f k fits is e = edge-read f.grid.min.x f.grid.cell_size fits is e

-- the cell is what is cut off there
piece-is : (vs : List Corner) {offset end : Float} {p : Piece} → offset ≡ end → p ≡ piece_of (first_of X offset vs) → piece_of (first_of X end vs) ≡ p
piece-is vs at e = rw (e, at)

pub returns-then-gives_nothing-clause-carries : goal.returns-then-gives_nothing-clause-carries
returns-then-gives_nothing-clause-carries c others f H =
    let a = c.args in
    let g = a.job.frame in
    let end = end-is g a.k (record { sfits = c.number.type_inv }) c.number.ensures c.edge-end.ensures in
    let cell = piece-is (left a.rest.now) end c.in_default.ensures.part in
    remains-is g.width a.job.threshold a.job.area a.made
    (turn-is X _ end c.in_default.ensures.verdict (cell_events g a.z) a.k ∙ c.if-gives_nothing.ensures (cell_events g a.z) _ (ap (λ (p : Piece). p.n) cell)) H

pub returns-then-gives_nothing-clause-cuts_off : goal.returns-then-gives_nothing-clause-cuts_off
returns-then-gives_nothing-clause-cuts_off c =
    let a = c.args in
    let end = end-is a.job.frame a.k (record { sfits = c.number.type_inv }) c.number.ensures c.edge-end.ensures in
    rest-few X _ end c.in_default.ensures.verdict _ c.in_default.ensures.rest

pub returns-clause-carries : goal.returns-clause-carries
returns-clause-carries c others f H =
    let a = c.args in
    let g = a.job.frame in
    let end = end-is g a.k (record { sfits = c.number.type_inv }) c.number.ensures c.edge-end.ensures in
    let cell = piece-is (left a.rest.now) end c.in_default.ensures.part in
    remains-of g.width a.job.threshold a.job.area a.made f
    (turn-is X _ end c.in_default.ensures.verdict (cell_events g a.z) a.k ∙ c.if-gives_nothing.ensures.1 (cell_events g a.z) _ (ap (λ (p : Piece). p.n) cell))
    (c.place.ensures.carries others f _ (ap (λ (p : Piece). p.low) cell) (ap (λ (p : Piece). p.high) cell) H)

pub returns-clause-cuts_off : goal.returns-clause-cuts_off
returns-clause-cuts_off c =
    let a = c.args in
    let end = end-is a.job.frame a.k (record { sfits = c.number.type_inv }) c.number.ensures c.edge-end.ensures in
    cuts-off X _ _ _ c.place.result (rest-few X _ end c.in_default.ensures.verdict _ c.in_default.ensures.rest)
