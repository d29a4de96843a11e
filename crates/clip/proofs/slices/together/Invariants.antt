-- The loop's invariant: y is what the numbers of the vertices passed come to.
use mathlib.Core.Path.{◌≡◌}
use mathlib.Core.List.{map, foldl}
use lib.Ieee.{Float}
use lib.ListN.{take}
use Rattle.clip.specs.Slices.{read_of, Chooses}
use Rattle.clip.proofs.slices.together.Given as goal

abbrev pub invariant-loop-v : goal.invariant-loop-v
invariant-loop-v g l =
    (choice : Float → Float → Float) → Chooses (goal.C-post g l.choice) choice
    → l.y ≡ foldl choice l.initial.y (map (read_of l.of) (take l.v-index l.rest))
