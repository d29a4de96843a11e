-- The loop's invariant: the open spaces left of the column end as all of them would, and what the cursors passed is behind whoever stands higher than
-- those done. Words change, and the heights in them stay, so the cells are still there.
use Prim.Native.Nat.{ℕ, ◌≤◌, ◌<◌, ◌*◌, ◌+◌}
use mathlib.Core.Path.{◌≡◌}
use mathlib.Core.List.{List, []}
use lib.ListN.{length, get_or}
use Rattle.field.specs.Open.{Open}
use Rattle.field.specs.Links.{passes, around, word_of, missed_of}
use Rattle.field.proofs.Joining.{Joining}
use Rattle.rerecast.specs.Lent.{compact_of, SameCompact}
use Rattle.rerecast.specs.Compacting.{ShownIn, AllLeft}
use Rattle.rerecast.proofs.Compacting.{OnlyWords}
use Rattle.rerecast.proofs.links.link_spans.Given as goal

abbrev pub invariant-loop-l : goal.invariant-loop-l
invariant-loop-l l =
    let pass = passes l.tall l.climb in
    let t = l.initial.compact in
    let w = l.fn.size.width in
    let h = l.fn.size.height in
    SameCompact t l.compact
    × OnlyWords (compact_of t) (compact_of l.compact)
    × ((cs : List (List Open)) → length cs ≡ w * h → ShownIn cs (compact_of t)
    → Joining (word_of pass (around w h cs l.column)) (missed_of pass (around w h cs l.column))
    (get_or cs l.column []) (get_or t.indices.now l.column 0) t.words.now l.compact.words.now l.missed l.l l.most)
    × ((y : ℕ) → ((j : ℕ) → j < l.l → get_or t.ys.now (l.first + j) 0 ≤ y) → AllLeft l.tall l.climb y t.ys.now t.words.now l.sides l.cursors)
