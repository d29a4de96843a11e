-- The loop's invariant: whatever slot the loop has come to is a cursor.
use Prim.Native.Nat.{ℕ}
use mathlib.Core.List.{List}
use lib.ListN.{length}
use Rattle.field.specs.declared.Span.{Span}
use Rattle.field.specs.Inner.{Chain, slots_from}
use Rattle.field.specs.FilterCode.{Cursor}
use Rattle.rerecast.specs.Lent.{contents_in}
use Rattle.rerecast.proofs.Columns.{Reached}
use Rattle.rerecast.proofs.ledges.skip.Given as goal

abbrev pub invariant-loop-at : goal.invariant-loop-at
invariant-loop-at l =
    let nexts = l.columns.nexts.now in
    ((ss : List ℕ) × Chain nexts l.at ss)
    × Reached nexts l.at
    × ((areas : List ℕ) (whole : List Span) → Cursor (contents_in l.columns areas) nexts l.need whole l.s → Cursor (contents_in l.columns areas) nexts l.need whole l.at)

abbrev pub decreases-loop-at : goal.decreases-loop-at
decreases-loop-at l = length (slots_from l.columns.nexts.now l.at)
