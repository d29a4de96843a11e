-- `clip::slices::edge` meets its contract.
use mir.Syntax.{w16}
use mir.ValLaws.{to_z-of_z}
use Rattle.clip.specs.Slices.{edge_of}
use Rattle.clip.proofs.slices.edge.Goals as goal

pub returns : goal.returns
unfolding edge_of
returns c = rw (to_z-of_z w16 c.args.at c.ranges.at)
