-- `clip::cut::divide` meets its contract.
use mathlib.Core.Logic.{inl, inr}
use native.Mathlib.Omega.{arith}
use Rattle.clip.proofs.Rounds.{verdict-many, verdict-first, verdict-second, verdict-fine}
use Rattle.clip.proofs.cut.divide.Goals as goal

pub returns-then-vs-gt7-clause-verdict : goal.returns-then-vs-gt7-clause-verdict
returns-then-vs-gt7-clause-verdict g c = verdict-many _ _ _ c.if-vs-gt7.true

pub returns-then-n-gt7-clause-verdict : goal.returns-then-n-gt7-clause-verdict
returns-then-n-gt7-clause-verdict g c =
    let n = c.go_round-n.ensures.counts in
    elim c.then-n-gt7.either [
      | inl many ↦ verdict-first _ _ _ c.if-vs-gt7.false (omega (arith, n.0, many))
      | inr more ↦ verdict-second _ _ _ c.if-vs-gt7.false (omega (arith, n.0, more.0)) (omega (arith, n.1, more.1))
    ]

pub returns-clause-verdict : goal.returns-clause-verdict
returns-clause-verdict g c =
    let n = c.go_round-n.ensures.counts in
    verdict-fine _ _ _ c.if-vs-gt7.false (omega (arith, n.0, c.if-n-gt7.false)) (omega (arith, n.1, c.if-n-gt7-2.false))
