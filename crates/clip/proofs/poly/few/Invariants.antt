-- The loop's invariant: so many of the vertices stand where they belong.
use mathlib.Core.Path.{◌≡◌}
use lib.ListN.{take, replicate}
use lib.Seq.{sets}
use Rattle.clip.specs.Poly.{origin}
use Rattle.clip.proofs.poly.few.Given as goal

abbrev pub invariant-loop-i : goal.invariant-loop-i
invariant-loop-i l = l.at ≡ sets (replicate 7 origin) 0 (take l.i l.p.at)
