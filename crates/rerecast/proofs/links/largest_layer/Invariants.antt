-- The loop's invariant: the largest layer that passes is the best so far, or is among those left. From a layer that is past on there is none.
use Prim.Native.Nat.{◌≤◌, ◌+◌, ◌-◌}
use mathlib.Core.Path.{◌≡◌}
use Rattle.field.specs.Open.{space}
use Rattle.field.specs.Links.{passes, largest}
use Rattle.field.specs.Rowing.{shown}
use Rattle.field.proofs.Layers.{rest}
use Rattle.rerecast.proofs.links.largest_layer.Given as goal

abbrev pub invariant-loop-l : goal.invariant-loop-l
invariant-loop-l l =
    let pass = passes l.q.tall l.q.climb (space l.q.y l.q.height 0) in
    let ys = l.compact.ys.now in
    let ws = l.compact.words.now in
    (l.l ≤ l.side.count)
    × (largest pass l.best l.l (rest ys ws l.side.first l.side.count l.l) ≡ largest pass 0 63 (shown ys ws (l.side.first + 63) (l.side.count - 63)))
