-- The loop's invariant: what is left of the columns ends as all of them would.
use Prim.Native.Nat.{◌*◌}
use mathlib.Core.Path.{◌≡◌}
use mathlib.Core.List.{List}
use lib.ListN.{length}
use Rattle.field.specs.Open.{Open}
use Rattle.field.specs.Links.{passes, around, word_of, missed_of}
use Rattle.field.proofs.Joining.{Threading}
use Rattle.rerecast.specs.Lent.{compact_of, SameCompact}
use Rattle.rerecast.specs.Compacting.{ShownIn}
use Rattle.rerecast.proofs.Compacting.{OnlyWords}
use Rattle.rerecast.proofs.links.link_columns.Given as goal

abbrev pub invariant-loop-column : goal.invariant-loop-column
invariant-loop-column l =
    let pass = passes l.tall l.climb in
    let t = l.initial.compact in
    let w = l.size.width in
    let h = l.size.height in
    SameCompact t l.compact
    × OnlyWords (compact_of t) (compact_of l.compact)
    × ((cs : List (List Open)) → length cs ≡ w * h → ShownIn cs (compact_of t)
    → Threading (λ j. word_of pass (around w h cs j)) (λ j. missed_of pass (around w h cs j))
    cs t.indices.now t.counts.now t.ys.now t.words.now l.compact.words.now l.column l.most)
