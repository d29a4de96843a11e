-- `clip::slices::held_last` meets its contract.
use mathlib.Core.Path.{ap, ◌∙◌}
use lib.IntN.{ℤ}
use mir.Syntax.{w32}
use mir.ValLaws.{to_z-of_z}
use Rattle.clip.specs.Slices.{held_to}
use Rattle.clip.proofs.slices.held_last.Goals as goal

pub returns : goal.returns
returns c = c.held.ensures ∙ ap (λ (z : ℤ). held_to 0 c.args.last z) (to_z-of_z w32 c.args.v c.ranges.v)
