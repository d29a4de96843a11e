-- The loop's invariant: the rows from k on, of what is left of the triangle, come on the store as it is now to what all of them come to. No more
-- insertions were made than the rows passed have cells.
use mathlib.Core.List.{List, ◌++◌}
use Prim.Native.Nat.{ℕ, ◌*◌, ◌≤◌}
use lib.ListN.{length}
use Rattle.clip.specs.declared.cut.Axis.TheVariants.{Z}
use Rattle.clip.specs.Rest.{left}
use Rattle.clip.specs.Work.{edge_at, row_events}
use Rattle.field.specs.Field.{Field, Holds}
use Rattle.field.specs.Carrying.{carry}
use Rattle.field.specs.Working.{Remains, turns_to}
use Rattle.rerecast.specs.Lent.{slots_of, SameSlots}
use Rattle.rerecast.proofs.rows.rows.Given as goal

abbrev pub invariant-loop-k : goal.invariant-loop-k
invariant-loop-k l = (length (left l.rests.triangle) ≤ 7)
    × (l.count ≤ l.k * 4097)
    × ((others : List ℕ) (f : Field) → Holds (l.initial.heads ++ others) (slots_of l.initial.slots) f
    → Remains l.job.frame.width l.job.threshold l.job.area
    (carry l.job.frame.width l.job.threshold l.job.area 0 f (turns_to Z (edge_at l.job.frame Z) (row_events l.job.frame) l.last l.first (left l.initial.rests.triangle)))
    l.count
    (turns_to Z (edge_at l.job.frame Z) (row_events l.job.frame) l.last l.k (left l.rests.triangle))
    (l.heads ++ others)
    (slots_of l.slots))
    × SameSlots l.initial.slots l.slots
