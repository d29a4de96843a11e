-- `fill_column` meets its contract.
use Prim.Native.Nat.{ℕ}
use mathlib.Core.Path.{◌≡◌, sym, ◌∙◌}
use mathlib.Core.List.{List, map}
use native.Mathlib.Omega.{arith}
use Rattle.field.specs.Slots.{Contents, contents, span_at}
use Rattle.field.specs.Inner.{Chain}
use Rattle.field.specs.FilterCode.{roof_at}
use Rattle.field.specs.Walkable.{roof}
use Rattle.field.proofs.Chains.{chain-cons, chain-less}
use Rattle.field.proofs.Upward.{roof-of}
use Rattle.field.proofs.Laying.{laying-slot, laying-roof, laying-room, laying-under, laying-step, laying-end}
use Rattle.rerecast.proofs.Compacting.{same-compact}
use Rattle.rerecast.proofs.compact_heightfield.fill_column.Goals as goal

-- a top that is read where the slots go on is the roof that they make
up : (k : Contents) {nx : List ℕ} {h top : ℕ} → top ≡ roof_at k.floors h → (tl : List ℕ) → Chain nx h tl → top ≡ roof (map (span_at k) tl)
up k e tl c = e ∙ sym (roof-of k tl c)

pub bounds-columns-i : goal.bounds-columns-i
bounds-columns-i c = (laying-slot c.loop-at.invariant.2 c.loop-at-test.true).0

pub bounds-columns-i-in-loop-at : goal.bounds-columns-i-in-loop-at
bounds-columns-i-in-loop-at c = omega (arith, laying-slot c.loop-at.invariant.2 c.loop-at-test.true, c.loop-at.invariant.2.sized.floors)

pub bounds-columns-i-in-loop-at-2 : goal.bounds-columns-i-in-loop-at-2
bounds-columns-i-in-loop-at-2 c = omega (arith, laying-slot c.loop-at.invariant.2 c.loop-at-test.true, c.loop-at.invariant.2.sized.ceilings)

pub bounds-areas-i : goal.bounds-areas-i
bounds-areas-i c = omega (arith, laying-slot c.loop-at.invariant.2 c.loop-at-test.true, c.loop-at.invariant.2.sized.areas)

pub roof_of-requires : goal.roof_of-requires
roof_of-requires c = laying-roof c.loop-at.invariant.2 c.loop-at-test.true

pub place-k-requires-clause-room : goal.place-k-requires-clause-room
place-k-requires-clause-room c =
    let s = c.args.columns.now in
    laying-room c.loop-at.invariant.2 c.loop-at-test.true c.roof_of.result (up (contents s.floors.now s.ceilings.now c.args.areas.now) c.roof_of.ensures)

pub place-k-requires-clause-cell_there : goal.place-k-requires-clause-cell_there
place-k-requires-clause-cell_there c =
    let s = c.args.columns.now in
    let p = c.loop-at.invariant in (
      rw p.1 c.requires.even.2,
      p.2.cell,
      laying-under p.2 c.loop-at-test.true c.roof_of.result (up (contents s.floors.now s.ceilings.now c.args.areas.now) c.roof_of.ensures),
    )

pub loop-at-smaller : goal.loop-at-smaller
loop-at-smaller c =
    let p = c.loop-at.invariant.2 in
    let k = chain-cons p.left p.here c.loop-at-test.true in
    chain-less p.left k.0 p.here k.1 k.2

pub loop-at-preserved : goal.loop-at-preserved
loop-at-preserved c =
    let s = c.args.columns.now in
    let p = c.loop-at.invariant in
    let e = c.place-k.ensures.placed in (
      same-compact c.args.compact.now c.loop-at.compact c.place-k.new.compact p.0 c.place-k.ensures.same_compact,
      e.indices ∙ p.1,
      laying-step p.2 c.loop-at-test.true c.roof_of.result (up (contents s.floors.now s.ceilings.now c.args.areas.now) c.roof_of.ensures) e.place e.rows e.counts,
    )

pub returns-clause-laid : goal.returns-clause-laid
returns-clause-laid c ss C =
    let p = c.loop-at.invariant in
    record { indices = p.1; laid = laying-end p.2 c.loop-at-test.false ss C }
