-- The loop's invariant: the layers passed are behind. A layer that is not reached is behind too, unless it is past.
use Prim.Native.Nat.{◌≤◌}
use Rattle.field.specs.Rowing.{AllBehind}
use Rattle.rerecast.proofs.links.look_up.Given as goal

abbrev pub invariant-loop-l : goal.invariant-loop-l
invariant-loop-l l = (l.l ≤ l.side.count) × AllBehind l.q.tall l.q.climb l.q.y l.compact.ys.now l.compact.words.now l.side.first l.l
