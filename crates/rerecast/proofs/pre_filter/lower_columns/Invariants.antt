-- The loop's invariant: after each column, what is left of them ends as the whole would.
use Rattle.field.specs.Field.{Field, Holds}
use Rattle.field.specs.Filters.{roomed}
use Rattle.field.proofs.Sweeping.{Sweep}
use Rattle.rerecast.specs.Lent.{slots_in}
use Rattle.rerecast.proofs.pre_filter.lower_columns.Given as goal

abbrev pub invariant-loop-head : goal.invariant-loop-head
invariant-loop-head l =
    (f : Field) → Holds l.columns.heads.now (slots_in l.columns l.initial.areas) f → Sweep (λ i below s above. roomed l.height s above) f l.areas l.head-index
