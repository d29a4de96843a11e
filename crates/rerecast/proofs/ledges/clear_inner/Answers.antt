-- `clear_inner` meets its contract.
use Prim.Native.Nat.{ℕ, ◌+◌, ◌-◌, ◌<◌}
use mathlib.Core.Path.{◌≡◌, sym, ap, subst, ◌∙◌}
use mathlib.Core.List.{List, map}
use lib.ListN.{length, get_or}
use native.Mathlib.Omega.{arith}
use Rattle.field.specs.Slots.{contents, slots}
use Rattle.field.specs.Field.{Field, column_at, spans, Holds}
use Rattle.field.specs.FilterCode.{roof_at, around, greatest, Cursors}
use Rattle.field.proofs.Chains.{chain-slot}
use Rattle.field.proofs.Holding.{column-chain}
use Rattle.field.proofs.Upward.{upward-end}
use Rattle.field.proofs.Cursors.{cursors-first, hollow-first, around-inside}
use Rattle.field.proofs.Ledging.{ledging-start, ledging-serves, ledging-step}
use Rattle.rerecast.specs.Lent.{slots_in}
use Rattle.rerecast.specs.PreFilter.{sides_of, AllSlots}
use Rattle.rerecast.specs.declared.ledges.Sides.{Sides}
use Rattle.rerecast.proofs.Columns.{chain-reached}
use Rattle.rerecast.proofs.ledges.clear_inner.Goals as goal

-- the lowest slots of the columns beside are slots, where those columns are not empty
lowest-slots : {heads : List ℕ} {free : ℕ} {fl ce ar nx : List ℕ} {f : Field} (H : Holds heads (slots free fl ce ar nx) f) (w i : ℕ) (s : Sides)
    → i - 1 < length heads → i + w < length heads → i + 1 < length heads → i - w < length heads
    → sides_of s ≡ map (λ k. get_or heads k 0) (around w i) → AllSlots fl s
lowest-slots {heads} {free} {fl} {ce} {ar} {nx} {f} H w i s a b c d e =
    let k = subst (λ (rs : List ℕ). Cursors (contents fl ce ar) nx 0 (spans f) (around w i) rs) (sym e) (cursors-first H w i a b c d) in
    rw H.sized.floors (
      chain-slot k.0.rest k.0.chain,
      chain-slot k.1.0.rest k.1.0.chain,
      chain-slot k.1.1.0.rest k.1.1.0.chain,
      chain-slot k.1.1.1.0.rest k.1.1.1.0.chain,
    )

pub hollow_of-hollow-requires : goal.hollow_of-hollow-requires
hollow_of-hollow-requires c =
    let a = c.args in
    let p = c.requires.inside in
    lowest-slots c.requires.held.1.1 a.width a.column c.sides_of-sides.result (omega arith) p.2 p.3 (omega arith) c.sides_of-sides.ensures

pub loop-at-init : goal.loop-at-init
loop-at-init c =
    let a = c.args in
    let p = c.requires.inside in
    rw c.sides_of-sides.ensures (
      λ areas₀ f H. ledging-start H a.width a.column a.agent.height a.agent.climb (omega arith) p.2 p.3 (omega arith) a.areas.now,
      chain-reached (column_at c.requires.held.1.0 a.column) (column-chain c.requires.held.1.1 a.column (omega arith)),
    )

pub judge-judged-requires-clause-are_cursors : goal.judge-judged-requires-clause-are_cursors
judge-judged-requires-clause-are_cursors c =
    let p = c.requires.held in
    (p.0, spans p.1.0, c.args.width, c.args.column, ledging-serves (c.loop-at.invariant.0 _ _ p.1.1) c.loop-at-test.true)

pub loop-at-preserved : goal.loop-at-preserved
loop-at-preserved c =
    let a = c.args in
    let n = c.loop-at-test.true in
    let p = c.requires.inside in
    let inside = around-inside a.width a.column (length a.columns.now.heads.now) p.2 p.3 (omega arith) in
    let on = λ (areas₀ : List ℕ) (f : Field) (H : Holds a.columns.now.heads.now (slots_in a.columns.now areas₀) f).
    let l = c.loop-at.invariant.0 areas₀ f H in
    let serves = ledging-serves l n in
    let hollow-is =
    c.hollow_of-hollow.ensures
    ∙ ap (λ (rs : List ℕ). greatest (map (roof_at a.columns.now.floors.now) rs)) c.sides_of-sides.ensures
    ∙ hollow-first H a.width a.column (omega arith) p.2 p.3 (omega arith)
    in
    let judged = rw c.roof_of-roof.ensures at c.judge-judged.ensures.judged in
    ledging-step l n (judged areas₀ (spans f) a.width a.column serves inside hollow-is)
    (c.judge-judged.ensures.keeps_cursors areas₀ (spans f) a.width a.column serves)
    in
    let at-held = on _ _ c.requires.held.1.1 in
    rw c.change_byte.ensures (on, chain-reached at-held.up.left at-held.up.here)

pub returns : goal.returns
returns c areas₀ f H = upward-end (c.loop-at.invariant.0 areas₀ f H).up c.loop-at-test.false
