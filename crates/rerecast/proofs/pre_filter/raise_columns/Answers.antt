-- `raise_columns` meets its contract.
use native.Mathlib.Numerals.{add-one}
use native.Mathlib.Omega.{arith}
use Rattle.field.specs.Field.{column_at}
use Rattle.field.proofs.Holding.{column-chain, column-distinct}
use Rattle.field.proofs.Sweeping.{sweep-step}
use Rattle.rerecast.proofs.pre_filter.raise_columns.Goals as goal

pub raise_column-requires-clause-is_chain : goal.raise_column-requires-clause-is_chain
raise_column-requires-clause-is_chain c =
    let H = c.requires.1 in
    (column_at c.requires.0 c.loop-head.head-index, (column-chain H _ (omega arith), column-distinct H _))

pub loop-head-preserved : goal.loop-head-preserved
loop-head-preserved c f H = rw add-one (sweep-step H _ _ (omega arith) (c.loop-head.invariant f H) c.raise_column.ensures)
