-- `judge` meets its contract: each answer is what the test for a ledge says where it is given.
use Prim.Native.Nat.{ℕ, ◌+◌, ◌-◌, ◌<◌}
use native.Mathlib.Omega.{arith}
use mathlib.Core.Path.{◌≡◌, sym, ◌∙◌}
use mathlib.Core.Bool.{Bool}
use mathlib.Core.List.{List, [], ◌∷◌}
use Rattle.field.specs.declared.Span.{Span}
use Rattle.field.specs.Ledges.{Stand}
use Rattle.field.specs.LedgeTest.{looked_at, tells, ledge}
use Rattle.field.specs.FilterCode.{around, Inside, hollow_of}
use Rattle.field.proofs.Looking.{ledge-low, ledge-gap, ledge-look}
use Rattle.rerecast.specs.PreFilter.{stand_of}
use Rattle.rerecast.proofs.ledges.judge.Goals as goal

-- where the hollow is no gap, the look around decides
decided : (st : Stand) {hollow : ℕ} (at : ℕ → List Span) (w i : ℕ) {steep : Bool} → hollow < st.top + st.height
    → steep ≡ tells st (looked_at st at (around w i)) → Inside (around w i) → hollow ≡ hollow_of at (around w i) → ledge st at (around w i) ≡ steep
decided st at w i low e inside h = ledge-look st at (around w i) inside (rw (← h) low) ∙ sym e

pub returns-then-from-need-clause-judged : goal.returns-then-from-need-clause-judged
returns-then-from-need-clause-judged c areas at w i k inside h =
    rw (ledge-low (stand_of c.args.st) at (around w i) inside (omega arith))

pub returns-then-need-from-clause-judged : goal.returns-then-need-from-clause-judged
returns-then-need-from-clause-judged c areas at w i k inside h =
    rw (ledge-gap (stand_of c.args.st) at (i - 1) ((i + w) ∷ (i + 1) ∷ (i - w) ∷ []) inside (omega arith) (omega arith))

pub looks_steep-requires-clause-are_cursors : goal.looks_steep-requires-clause-are_cursors
looks_steep-requires-clause-are_cursors c =
    let p = c.requires.are_cursors in
    let moved = rw (c.from.ensures, c.from-2.ensures) at c.follow-sides.ensures.keeps_cursors in
    (p.0, p.1, p.2, p.3, moved p.0 p.1 p.2 p.3 p.4)

pub looks_steep-requires-clause-height_bound : goal.looks_steep-requires-clause-height_bound
looks_steep-requires-clause-height_bound c = (omega arith, rw (c.from.ensures, c.from-2.ensures) at c.follow-sides.ensures.all_under)

pub returns-then-looks_steep-clause-judged : goal.returns-then-looks_steep-clause-judged
returns-then-looks_steep-clause-judged c areas at w i k inside h =
    let further = (rw (c.from.ensures, c.from-2.ensures) at c.follow-sides.ensures.keeps_cursors) areas at w i k in
    rw (decided (stand_of c.args.st) at w i (omega arith) (c.if-looks_steep.ensures areas at w i further) inside h)

pub returns-clause-judged : goal.returns-clause-judged
returns-clause-judged c areas at w i k inside h =
    let further = (rw (c.from.ensures, c.from-2.ensures) at c.follow-sides.ensures.keeps_cursors) areas at w i k in
    rw (decided (stand_of c.args.st) at w i (omega arith) (c.if-looks_steep.ensures areas at w i further) inside h)

pub returns-then-looks_steep-clause-keeps_cursors : goal.returns-then-looks_steep-clause-keeps_cursors
returns-then-looks_steep-clause-keeps_cursors c = rw (c.from.ensures, c.from-2.ensures) at c.follow-sides.ensures.keeps_cursors

pub returns-clause-keeps_cursors : goal.returns-clause-keeps_cursors
returns-clause-keeps_cursors c = rw (c.from.ensures, c.from-2.ensures) at c.follow-sides.ensures.keeps_cursors
