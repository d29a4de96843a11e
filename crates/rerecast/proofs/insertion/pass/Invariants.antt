-- The loop's invariant: what is left of the column ends as the whole would. The measure is how many slots are left.
use lib.ListN.{length}
use Rattle.field.specs.Inner.{slots_from}
use Rattle.field.proofs.Passing.{Passing}
use Rattle.rerecast.proofs.insertion.pass.Given as goal

abbrev pub invariant-loop-at : goal.invariant-loop-at
invariant-loop-at l = Passing l.slots.ceilings.now l.slots.nexts.now l.head l.floor l.before l.at

abbrev pub decreases-loop-at : goal.decreases-loop-at
decreases-loop-at l = length (slots_from l.slots.nexts.now l.at)
