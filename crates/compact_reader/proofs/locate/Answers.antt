-- `locate` meets its contract: the grid's tests, then that of the slices, then that of the place.
use Rattle.std.proofs.Common.{◌≡◌, None}
use Rattle.std.proofs.lemmas.Result.{err_from_is_err_and}
use Rattle.grid.proofs.Accepted as grids
use Rattle.compact_reader.specs.declared.Refusal.TheVariants as refusal
use Rattle.compact_reader.proofs.Places.{too_few, off_grid, stands}
use Rattle.compact_reader.proofs.locate.Goals as goal

pub returns-then-shortest-columns : goal.returns-then-shortest-columns
returns-then-shortest-columns c =
    let g = c.args.grid in
    let k = grids.fine g c.check.result c.check.ensures _ c.in_ok-size.was in
    too_few g c.in_ok-size.size k _ _ _ (rw c.columns.ensures at c.if-shortest-columns.true)

pub returns-in_err-column : goal.returns-in_err-column
returns-in_err-column c =
    let g = c.args.grid in
    let k = grids.fine g c.check.result c.check.ensures _ c.in_ok-size.was in
    let none : c.column.result ≡ None = c.in_err-column.ensures.ok_part in
    let off : c.in_err-column.field-0.0 ≡ refusal.OffGrid = cc (rw none at c.in_err-column.ensures.value) in
    let p = err_from_is_err_and c.from_residual-in_err-column.result c.from_residual-in_err-column.ensures.1 in
    rw (p.1, p.2, off)
    (off_grid g c.in_ok-size.size k _ _ _ (rw c.columns.ensures at c.if-shortest-columns.false) (rw none at c.column.ensures))

pub returns : goal.returns
returns c =
    let g = c.args.grid in
    let k = grids.fine g c.check.result c.check.ensures _ c.in_ok-size.was in
    stands g c.in_ok-size.size k _ _ _ _ (rw c.columns.ensures at c.if-shortest-columns.false)
    (rw c.in_ok-column.ensures.ok_part at c.column.ensures)
