-- `fill_columns` meets its contract.
use Prim.Native.Nat.{ℕ, ◌<◌, ◌≤◌}
use mathlib.Core.Path.{◌≡◌, refl}
use mathlib.Core.List.{List}
use lib.ListN.{length}
use native.Mathlib.Numerals.{add-one}
use native.Mathlib.Omega.{arith}
use Rattle.field.specs.Field.{column_at}
use Rattle.field.specs.Open.{columns_of}
use Rattle.field.specs.Compact.{Result}
use Rattle.field.proofs.Holding.{column-chain}
use Rattle.field.proofs.Filling.{Shape, shape-start, filling-start, filling-end, cell-few, cell-layable, stored-place, stored-index, filling_step, shape-step}
use Rattle.rerecast.proofs.Compacting.{same-compact}
use Rattle.rerecast.proofs.compact_heightfield.fill_columns.Goals as goal
use Rattle.rerecast.proofs.compact_heightfield.fill_columns.Goals.{After-index_of}

-- each column has a count
counted : {heads : List ℕ} {t t' : Result} {i k : ℕ} → Shape heads t t' i k → length heads ≤ length t.counts → i < length heads → i < length t'.counts
counted p s l = omega (arith, p.counts, s, l)

-- the indices are not touched by a column's open spaces
indices-stay : (c : After-index_of) → c.fill_column-end.new.compact.indices.now ≡ c.loop-column.compact.indices.now
indices-stay c = (c.fill_column-end.ensures.laid _ (column-chain c.requires.held.1 c.loop-column.column c.loop-column-test.true)).indices

pub loop-column-init : goal.loop-column-init
loop-column-init c = ((refl, refl, refl, refl, refl), shape-start _ _, λ f H. filling-start (columns_of f) _)

pub fill_column-end-requires-clause-layable : goal.fill_column-end-requires-clause-layable
fill_column-end-requires-clause-layable c =
    let g = c.requires.held in
    let i = c.loop-column.column in
    let l = c.loop-column-test.true in
    let p = c.loop-column.invariant in
    let n = counted p.1 c.requires.cells_there.2 l in
    (column_at g.0 i, (column-chain g.1 i l, cell-layable g.1 l g.2 g.3 n p.1 (p.2 g.0 g.1)))

pub overflow_sub-end : goal.overflow_sub-end
overflow_sub-end c =
    let l = c.loop-column-test.true in
    let n = counted c.loop-column.invariant.1 c.requires.cells_there.2 l in
    omega (arith, stored-place c.requires.held.1 l c.loop-column.compact.counts.now n (λ ss C. (c.fill_column-end.ensures.laid ss C).laid))

pub bounds-compact-column-in-loop-column : goal.bounds-compact-column-in-loop-column
bounds-compact-column-in-loop-column c = rw (indices-stay c) (omega (arith, c.loop-column.invariant.1.indices, c.requires.cells_there.1, c.loop-column-test.true))

pub loop-column-preserved : goal.loop-column-preserved
loop-column-preserved c =
    let v = c.loop-column in
    let p = v.invariant in
    let l = c.loop-column-test.true in
    let g = c.requires.held in
    let sz = v.compact.counts.now in
    let n = counted p.1 c.requires.cells_there.2 l in
    let index = c.index_of.result in
    rw (add-one v.column, indices-stay c) (
      same-compact c.args.compact.now v.compact c.fill_column-end.new.compact p.0 c.fill_column-end.ensures.same_compact,
      shape-step g.1 l sz n (λ ss C. (c.fill_column-end.ensures.laid ss C).laid) index p.1 (cell-few g.1 l g.2),
      λ f H.
          filling_step H l sz n (λ ss C. (c.fill_column-end.ensures.laid ss C).laid) index (p.2 f H)
          (stored-index H l sz n (λ ss C. (c.fill_column-end.ensures.laid ss C).laid) c.index_of.ensures),
    )

pub returns-clause-filled : goal.returns-clause-filled
returns-clause-filled c f H =
    filling-end H (omega (arith, c.loop-column.invariant.1.within, c.loop-column-test.false)) (c.loop-column.invariant.2 f H)
