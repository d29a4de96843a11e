-- The loop's invariant: what is left of the column ends as the whole would, and a cursor in each column beside serves an agent that stands there.
use Prim.Native.Nat.{ℕ}
use mathlib.Core.List.{List}
use lib.ListN.{length, get_or}
use Rattle.field.specs.Field.{Field, Holds}
use Rattle.field.specs.Inner.{slots_from}
use Rattle.field.proofs.Ledging.{Ledging}
use Rattle.rerecast.specs.Lent.{slots_in}
use Rattle.rerecast.specs.PreFilter.{sides_of}
use Rattle.rerecast.proofs.Columns.{Reached}
use Rattle.rerecast.proofs.ledges.clear_inner.Given as goal

abbrev pub invariant-loop-at : goal.invariant-loop-at
invariant-loop-at l =
    let columns = l.columns in
    ((areas₀ : List ℕ) (f : Field) → Holds columns.heads.now (slots_in columns areas₀) f
    → Ledging columns.floors.now columns.ceilings.now columns.nexts.now l.width l.column l.agent.height l.agent.climb f areas₀ (get_or columns.heads.now l.column 0) l.initial.areas
    l.areas l.at (sides_of l.sides))
    × Reached columns.nexts.now l.at

abbrev pub decreases-loop-at : goal.decreases-loop-at
decreases-loop-at l = length (slots_from l.columns.nexts.now l.at)
