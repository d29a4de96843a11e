-- `test_marked` meets its contract: a broken chain rules a sound field out, and else the number of marked slots decides.
use mathlib.Core.Path.{ap, ◌∙◌}
use borrow.Author.Tests.{eqb-true, eqb-false}
use lib.ListN.{length, length-replicate}
use Rattle.field.proofs.Basics.{says_if}
use Rattle.field.proofs.Judging.{judged-columns, judged-spare, judged}
use Rattle.rerecast.proofs.soundness.test_marked.Goals as goal

pub returns-in_default : goal.returns-in_default
returns-in_default c ar za =
    judged-columns _ _ _ _ _ ar c.requires.even.0 c.requires.even.1 za c.requires.no_marks.0 c.in_default.ensures

pub returns-in_default-mark_free : goal.returns-in_default-mark_free
returns-in_default-mark_free c ar za =
    judged-spare _ _ _ _ _ ar c.requires.even.0 c.requires.even.1 za c.requires.no_marks.0 _ c.in-Some.ensures c.in_default-mark_free.ensures

pub returns : goal.returns
returns c ar za =
    let j = judged _ _ _ _ _ ar c.requires.even.0 c.requires.even.1 za c.requires.no_marks.0 _ c.in-Some.ensures _ c.in-Some-mark_free.ensures
    (c.mark_free.auto.marks ∙ c.mark_columns.auto.marks ∙ ap length c.requires.no_marks.1 ∙ length-replicate _ 0) in
    says_if _ (λ e. j.0 (eqb-true _ _ e)) (λ e f. eqb-false _ _ e (j.1 f))
