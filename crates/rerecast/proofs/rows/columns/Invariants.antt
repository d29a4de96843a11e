-- The loop's invariant: the columns from k on, of what is left of the part, come on the store as it is now to what all of them come to. No more insertions
-- were made than columns passed.
use mathlib.Core.List.{List, ◌++◌}
use Prim.Native.Nat.{ℕ, ◌+◌, ◌≤◌}
use lib.ListN.{length}
use Rattle.clip.specs.declared.cut.Axis.TheVariants.{X}
use Rattle.clip.specs.Rest.{left}
use Rattle.clip.specs.Work.{edge_at, cell_events}
use Rattle.field.specs.Field.{Field, Holds}
use Rattle.field.specs.Carrying.{carry}
use Rattle.field.specs.Working.{Remains, turns_to}
use Rattle.rerecast.specs.Lent.{slots_of, SameSlots}
use Rattle.rerecast.proofs.rows.columns.Given as goal

abbrev pub invariant-loop-k : goal.invariant-loop-k
invariant-loop-k l = (length (left l.row) ≤ 7)
    × (l.count + l.first ≤ l.made + l.k)
    × ((others : List ℕ) (f : Field) → Holds (l.initial.heads ++ others) (slots_of l.initial.slots) f
    → Remains l.job.frame.width l.job.threshold l.job.area
    (carry l.job.frame.width l.job.threshold l.job.area l.made f (turns_to X (edge_at l.job.frame X) (cell_events l.job.frame l.z) l.last l.first (left l.initial.row)))
    l.count
    (turns_to X (edge_at l.job.frame X) (cell_events l.job.frame l.z) l.last l.k (left l.row))
    (l.heads ++ others)
    (slots_of l.slots))
    × SameSlots l.initial.slots l.slots
