-- The loop's invariant: what is left of the columns ends as all of them would, and the slices keep their lengths.
use Rattle.field.specs.Field.{Field, Holds}
use Rattle.field.specs.Open.{columns_of}
use Rattle.field.proofs.Filling.{Shape, Filling}
use Rattle.rerecast.specs.Lent.{slots_in, compact_of, SameCompact}
use Rattle.rerecast.proofs.compact_heightfield.fill_columns.Given as goal

abbrev pub invariant-loop-column : goal.invariant-loop-column
invariant-loop-column l =
    let heads = l.columns.heads.now in
    let t = compact_of l.initial.compact in
    SameCompact l.initial.compact l.compact
    × Shape heads t (compact_of l.compact) l.column l.k
    × ((f : Field) → Holds heads (slots_in l.columns l.areas) f → Filling (columns_of f) t (compact_of l.compact) l.column l.k)
