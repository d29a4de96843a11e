-- `clip::slices::together` meets its contract.
use mathlib.Core.Path.{◌∙◌}
use lib.Ieee.{of_bits}
use Rattle.clip.specs.Slices.{read_of}
use Rattle.clip.proofs.Folds.{together-none, together-all}
use Rattle.clip.proofs.slices.together.Goals as goal

pub returns-in_default : goal.returns-in_default
unfolding of_bits
returns-in_default g c choice chooses = together-none choice (read_of c.args.of) c.args.vs.now c.in_default.ensures.cases

pub returns : goal.returns
returns g c choice chooses =
    let v = c.loop-v in
    v.invariant choice chooses
    ∙ together-all choice (read_of c.args.of) c.args.vs.now c.in-Some.first.now c.in-Some.rest.now c.in-Some.ensures.cases.0 v.v-index v.auto.v-index-end c.loop-v-test.false c.of-y.ensures
