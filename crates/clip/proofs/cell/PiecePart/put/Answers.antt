-- `clip::cell::PiecePart::put` meets its contract.
use native.Mathlib.Omega.{arith}
use Rattle.clip.proofs.Parts.{piece-first, piece-more}
use Rattle.clip.proofs.cell.PiecePart.put.Goals as goal

pub returns-then-at-eq0 : goal.returns-then-at-eq0
returns-then-at-eq0 c s vs many held = let a = c.args in piece-first a.self.now s vs a.at many held a.v c.if-at-eq0.true

pub returns-else-at-eq0 : goal.returns-else-at-eq0
returns-else-at-eq0 c s vs many held =
    let a = c.args in
    piece-more a.self.now s vs a.at many held a.v _ _ (omega (arith, c.if-at-eq0.false)) c.lesser-self.ensures c.greater-self.ensures
