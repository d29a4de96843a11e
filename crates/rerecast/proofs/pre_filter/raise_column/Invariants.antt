-- The loop's invariant: what is left of the column ends as the whole would, and the span below is at hand.
use lib.ListN.{length}
use Rattle.field.specs.Inner.{slots_from}
use Rattle.field.specs.FilterCode.{Beneath}
use Rattle.field.specs.Filters.{raised}
use Rattle.field.proofs.Upward.{Upward}
use Rattle.rerecast.proofs.Columns.{Reached}
use Rattle.rerecast.proofs.pre_filter.raise_column.Given as goal

abbrev pub invariant-loop-at : goal.invariant-loop-at
invariant-loop-at l =
    (p : Upward (λ below s above. raised l.climb below s) l.columns.floors.now l.columns.ceilings.now l.columns.nexts.now l.head l.initial.areas l.areas l.at)
    × Beneath l.base l.ground p.below
    × Reached l.columns.nexts.now l.at

abbrev pub decreases-loop-at : goal.decreases-loop-at
decreases-loop-at l = length (slots_from l.columns.nexts.now l.at)
