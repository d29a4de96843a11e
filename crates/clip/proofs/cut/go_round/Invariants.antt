-- The loop's invariant: both parts have what the vertices passed gave them, at most two for each.
use mathlib.Core.Path.{◌≡◌}
use Prim.Native.Nat.{◌+◌, ◌≤◌}
use lib.Ieee.{le}
use lib.ListN.{length, take}
use Rattle.clip.specs.Cut.{nought, distance, onward, last_of, gives_first, gives_second}
use Rattle.clip.proofs.cut.go_round.Given as goal

abbrev pub invariant-loop-v : goal.invariant-loop-v
invariant-loop-v g l =
    let passed = take l.v-index l.vs in
    let firsts = onward (gives_first l.axis l.offset) l.initial.b.vertex passed in
    let seconds = onward (gives_second l.axis l.offset) l.initial.b.vertex passed in
    record {
      few_first : l.n.first ≤ l.v-index + l.v-index;
      few_second : l.n.second ≤ l.v-index + l.v-index;
      before : l.b.vertex ≡ last_of l.initial.b.vertex passed;
      offset_of : l.b.d ≡ distance l.axis l.offset l.b.vertex;
      tested : l.b.before ≡ le nought l.b.d;
      many_first : length firsts ≡ l.n.first;
      many_second : length seconds ≡ l.n.second;
      first : l.first ≡ g.F.Part.holding l.fn.first firsts;
      second : l.second ≡ g.S.Part.holding l.fn.second seconds;
    }
