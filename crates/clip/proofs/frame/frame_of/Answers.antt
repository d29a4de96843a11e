-- `clip::frame::frame_of` meets its contract.
use mathlib.Core.Path.{refl}
use lib.Ieee.{of_bits}
use Rattle.clip.specs.Work.{frame_of}
use Rattle.clip.proofs.frame.frame_of.Goals as goal

pub returns : goal.returns
unfolding of_bits frame_of
returns c = refl
