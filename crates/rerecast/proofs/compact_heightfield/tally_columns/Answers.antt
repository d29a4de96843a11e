-- `tally_columns` meets its contract.
use native.Mathlib.Numerals.{add-one}
use native.Mathlib.Omega.{arith}
use Rattle.field.specs.Open.{columns_of, cells}
use Rattle.field.proofs.Holding.{column-chain}
use Rattle.field.proofs.Opening.{cells_wide}
use Rattle.field.proofs.Tallying.{adding-start, adding-step, adding-end, counted}
use Rattle.rerecast.proofs.compact_heightfield.tally_columns.Goals as goal

pub loop-head-init : goal.loop-head-init
loop-head-init c = (omega arith, λ f H. adding-start (cells (columns_of f)))

pub count_column-n-requires : goal.count_column-n-requires
count_column-n-requires c =
    let g = c.requires.held in
    record { even = g.1.sized.areas; is_chain = (_, column-chain g.1 c.loop-head.head-index c.loop-head-test.true) }

pub returns-then-n : goal.returns-then-n
returns-then-n c =
    λ f H few.
    let l = c.loop-head-test.true in
    omega (arith, few c.loop-head.head-index (omega (arith, cells_wide H)), counted H l c.count_column-n.ensures, c.if-n.true)

pub overflow_add-total : goal.overflow_add-total
overflow_add-total c = omega (arith, c.requires.few)

pub loop-head-preserved : goal.loop-head-preserved
loop-head-preserved c = (
  omega arith,
  λ f H.
      let l = c.loop-head-test.true in
      rw (add-one c.loop-head.head-index)
      (adding-step (c.loop-head.invariant.1 f H) (omega (arith, cells_wide H)) (counted H l c.count_column-n.ensures) c.if-n.false),
)

pub returns : goal.returns
returns c = λ f H. adding-end (c.loop-head.invariant.1 f H) (omega (arith, cells_wide H))
