-- `clip::cut::crossing` meets its contract.
use mathlib.Core.Path.{refl}
use Rattle.clip.specs.Cut.{crossing_of}
use Rattle.clip.proofs.cut.crossing.Goals as goal

pub returns : goal.returns
unfolding crossing_of
returns c = refl
