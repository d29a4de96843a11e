-- The loop's invariant: what is left of the column ends as the whole would.
use lib.ListN.{length}
use Rattle.field.specs.Inner.{slots_from}
use Rattle.field.specs.Filters.{roomed}
use Rattle.field.proofs.Upward.{Upward}
use Rattle.rerecast.proofs.Columns.{Reached}
use Rattle.rerecast.proofs.pre_filter.lower_column.Given as goal

abbrev pub invariant-loop-at : goal.invariant-loop-at
invariant-loop-at l =
    Upward (λ below s above. roomed l.height s above) l.columns.floors.now l.columns.ceilings.now l.columns.nexts.now l.head l.initial.areas l.areas l.at
    × Reached l.columns.nexts.now l.at

abbrev pub decreases-loop-at : goal.decreases-loop-at
decreases-loop-at l = length (slots_from l.columns.nexts.now l.at)
