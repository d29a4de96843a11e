-- `clip::cut::turn` meets its contract.
use mathlib.Core.Path.{◌≡◌}
use mathlib.Core.Bool.{Bool, beq}
use mathlib.Core.List.{List, [], ◌∷◌, ◌++◌}
use Prim.Native.Nat.{◌+◌}
use native.Mathlib.Omega.{arith}
use lib.Ieee.{Float, le, of_bits}
use lib.ListN.{length, length-append}
use Rattle.grid.specs.declared.Corner.{Corner}
use Rattle.clip.specs.Cut.{nought, agree, to_first, to_second}
use Rattle.clip.proofs.Rounds.{append-two}
use Rattle.clip.proofs.cut.turn.Goals as goal

-- d ≥ 0 at both, by what was kept of either
agree-as : {p q r : Bool} (db da : Float) → (q ≡ le nought db) × (p ≡ le nought da) → beq p q ≡ r → agree db da ≡ r
agree-as db da tested e = rw (← tested.0, ← tested.1) e

pub returns-then-a-b-clause-counts : goal.returns-then-a-b-clause-counts
unfolding of_bits to_first to_second
returns-then-a-b-clause-counts g c = rw (agree-as _ _ c.requires.tested c.if-a-b.true, ← c.requires.tested.1) c.join.ensures.counts

pub returns-then-a-b-clause-first : goal.returns-then-a-b-clause-first
unfolding of_bits to_first
returns-then-a-b-clause-first g c s vs e h = rw (agree-as _ _ c.requires.tested c.if-a-b.true, ← c.requires.tested.1) (c.join.ensures.first s vs e h)

pub returns-then-a-b-clause-second : goal.returns-then-a-b-clause-second
unfolding of_bits to_second
returns-then-a-b-clause-second g c s vs e h = rw (agree-as _ _ c.requires.tested c.if-a-b.true) (c.join.ensures.second s vs e h)

pub join-requires-2 : goal.join-requires-2
join-requires-2 g c = (omega (arith, c.join-m.ensures.counts.0, c.requires.room.0), omega (arith, c.join-m.ensures.counts.1, c.requires.room.1))

pub returns-clause-counts : goal.returns-clause-counts
unfolding of_bits to_first to_second
returns-clause-counts g c =
    rw (agree-as _ _ c.requires.tested c.if-a-b.false)
    (omega (arith, c.join-m.ensures.counts.0, c.join-2.ensures.counts.0), omega (arith, c.join-m.ensures.counts.1, c.join-2.ensures.counts.1))

-- with the crossing point after them
module _ (vs : List Corner) (p : Corner) where
  one : length (vs ++ p ∷ []) ≡ length vs + 1
  one = length-append vs (p ∷ [])

pub returns-clause-first : goal.returns-clause-first
unfolding of_bits to_first
returns-clause-first g c s vs e h =
    let p = c.crossing-c.result in
    rw (agree-as _ _ c.requires.tested c.if-a-b.false, ← c.crossing-c.ensures, ← append-two vs p _)
    (c.join-2.ensures.first s (vs ++ p ∷ []) (omega (arith, one vs p, e, c.join-m.ensures.counts.0)) (c.join-m.ensures.first s vs e h))

pub returns-clause-second : goal.returns-clause-second
unfolding of_bits to_second
returns-clause-second g c s vs e h =
    let p = c.crossing-c.result in
    rw (agree-as _ _ c.requires.tested c.if-a-b.false, ← c.crossing-c.ensures, ← append-two vs p _)
    (c.join-2.ensures.second s (vs ++ p ∷ []) (omega (arith, one vs p, e, c.join-m.ensures.counts.1)) (c.join-m.ensures.second s vs e h))
