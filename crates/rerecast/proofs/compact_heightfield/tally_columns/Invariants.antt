-- The loop's invariant: the cells so far are few enough, and their open spaces are counted.
use Prim.Native.Nat.{◌≤◌, ◌*◌}
use Rattle.field.specs.Field.{Field, Holds}
use Rattle.field.specs.Open.{columns_of, cells}
use Rattle.field.proofs.Tallying.{Adding}
use Rattle.rerecast.specs.Lent.{slots_in}
use Rattle.rerecast.proofs.compact_heightfield.tally_columns.Given as goal

abbrev pub invariant-loop-head : goal.invariant-loop-head
invariant-loop-head l =
    (l.total ≤ 255 * l.head-index) × ((f : Field) → Holds l.columns.heads.now (slots_in l.columns l.areas) f → Adding (cells (columns_of f)) l.total l.head-index)
