-- The loop's invariant: the open spaces left of the column end as all of it would, and no index changes. The column gets shorter.
use mathlib.Core.Path.{◌≡◌}
use lib.ListN.{length}
use Rattle.field.specs.Inner.{slots_from}
use Rattle.field.proofs.Laying.{Laying}
use Rattle.rerecast.specs.Lent.{compact_of, SameCompact}
use Rattle.rerecast.proofs.compact_heightfield.fill_column.Given as goal

abbrev pub invariant-loop-at : goal.invariant-loop-at
invariant-loop-at l =
    let c = l.columns in
    let t = l.initial.compact in
    SameCompact t l.compact
    × (l.compact.indices.now ≡ t.indices.now)
    × Laying c.floors.now c.ceilings.now l.areas c.nexts.now l.fn.head l.column (compact_of t).rows t.counts.now l.start (compact_of l.compact).rows l.compact.counts.now l.k l.at

abbrev pub decreases-loop-at : goal.decreases-loop-at
decreases-loop-at l = length (slots_from l.columns.nexts.now l.at)
