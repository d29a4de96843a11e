-- `place` meets its contract: a walkable span takes one place of each row, and one more count; any other takes none.
use mathlib.Core.Path.{refl}
use lib.ListN.{get_or}
use borrow.Author.Tests.{ne_eqb}
use Rattle.compact_span.specs.Span.{fresh_span}
use Rattle.rerecast.proofs.Compacting.{raised-in-part}
use Rattle.rerecast.proofs.compact_heightfield.place.Goals as goal

pub returns-clause-placed : goal.returns-clause-placed
unfolding fresh_span
returns-clause-placed c =
    let z = ne_eqb _ _ c.if-span-eq-NOT_WALKABLE.false in
    let s = c.args in
    let p = c.requires.cell_there in
    let raised = raised-in-part (get_or s.compact.now.indices.now s.column 0) s.compact.now.counts.now s.column p.1 (rw z at p.2) c.raise_at-raised.ensures.counts_after in
    rw z (record { place = refl; indices = refl; counts = raised; rows = rw (c.new-s.ensures, c.gap.ensures) refl })
