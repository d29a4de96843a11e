-- `clip::poly::divide_poly` meets its contract.
use borrow.Author.Rules.{rules}
use mathlib.Core.Path.{◌≡◌, ap, ◌∙◌}
use native.Mathlib.Omega.{arith}
use lib.ListN.{length}
use Rattle.clip.specs.Poly.{poly_of, held}
use Rattle.clip.specs.Cut.{first_of, second_of}
use Rattle.clip.proofs.Rounds.{Fits, verdict-ok, refused-is, cut-fits}
use Rattle.clip.proofs.Parts.{first-held, second-held, first-few, second-few}
use Rattle.clip.proofs.Polys.{poly-many, poly-few, refusal, answer}
use Rattle.clip.proofs.poly.divide_poly.Goals as goal
use Rattle.clip.proofs.poly.divide_poly.Goals.{In_ok-divide}

pub returns-then-p-gt7 : goal.returns-then-p-gt7
returns-then-p-gt7 c =
    let a = c.args in
    refusal _ _ (poly-many a.axis a.offset a.p c.if-p-gt7.true) (search rules)

pub returns-in_err-divide : goal.returns-in_err-divide
returns-in_err-divide c =
    let a = c.args in
    let seven : length a.p.at ≡ 7 = search rules in
    refusal _ _ (poly-few a.axis a.offset a.p c.if-p-gt7.false (omega (arith, c.if-p-gt7.false)) ∙ refused-is _ c.in_err-divide.ensures.verdict) c.from_residual.ensures.0

fits : (c : In_ok-divide) → Fits c.args.axis c.args.offset (held c.args.p)
fits c = verdict-ok _ _ _ c.in_ok-divide.ensures.verdict

pub few-requires : goal.few-requires
few-requires c = first-few (fits c.before) c.empty-first.result c.divide.ensures.first

pub few-requires-2 : goal.few-requires-2
few-requires-2 c = second-few (fits c.before.before.before) c.empty-second.result c.divide.ensures.second

pub returns : goal.returns
returns c =
    let a = c.args in
    let seven : length a.p.at ≡ 7 = search rules in
    let room : length c.empty-first.result.at ≡ 14 = search rules in
    let room' : length c.empty-second.result.at ≡ 14 = search rules in
    let f = fits c.before.before.before.before in
    answer _ (first_of a.axis a.offset (held a.p)) (second_of a.axis a.offset (held a.p))
    (poly-few a.axis a.offset a.p c.if-p-gt7.false (omega (arith, c.if-p-gt7.false)) ∙ cut-fits a.axis a.offset (held a.p) f)
    (c.few.ensures ∙ ap poly_of (first-held f c.empty-first.result room c.divide.ensures.first))
    (c.few-2.ensures ∙ ap poly_of (second-held f c.empty-second.result room' c.divide.ensures.second))
