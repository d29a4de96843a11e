-- `largest_layer` meets its contract.
use Prim.Native.Nat.{ℕ, ◌+◌, ◌-◌}
use mathlib.Core.Path.{◌≡◌, sym, ap, ◌∙◌}
use mathlib.Core.Bool.{Bool}
use native.Mathlib.Omega.{arith}
use lib.ListN.{get_or}
use Rattle.field.specs.Open.{Open, space}
use Rattle.field.specs.Links.{passes, largest}
use Rattle.field.specs.Rowing.{shown_at}
use Rattle.field.proofs.Climbing.{past-none}
use Rattle.field.proofs.Layers.{rest, largest-next, largest-skip, largest-none}
use Rattle.rerecast.proofs.links.largest_layer.Goals as goal
use Rattle.rerecast.proofs.links.largest_layer.Goals.{then-can_pass, else-can_pass}

pub loop-l-init : goal.loop-l-init
loop-l-init c =
    let s = c.args in
    let ys = s.compact.now.ys.now in
    let ws = s.compact.now.words.now in
    let p = c.requires.lies in
    let e = c.max-l.ensures in
    let pass : Open → Bool = passes s.q.tall s.q.climb (space s.q.y s.q.height 0) in
    let d = c.max-l.result - 63 in
    let m : c.max-l.result ≡ 63 + d = omega (arith, e) in (
      omega (arith, e, p.0, p.1),
      ap (λ (l : ℕ). largest pass 0 l (rest ys ws s.side.first s.side.count l)) m
          ∙ largest-skip ys ws s.side.first pass 0 s.side.count 63 d (omega (arith, e, p.0, p.1)) (λ j a b. c.requires.none_passes j (omega arith) (omega (arith, e))),
    )

pub returns-then-is_past : goal.returns-then-is_past
returns-then-is_past c =
    let s = c.args in
    let ys = s.compact.now.ys.now in
    let ws = s.compact.now.words.now in
    let v = c.loop-l in
    let o : Open = space s.q.y s.q.height 0 in
    sym (largest-none ys ws s.side.first (passes s.q.tall s.q.climb o) v.best s.side.count v.l v.invariant.0
    (λ j a b. past-none s.q.tall s.q.climb o (get_or ys (s.side.first + v.l) 0) (sym c.is_past.ensures ∙ c.if-is_past.true) (shown_at ys ws (s.side.first + j)) (c.requires.lies.2.climbs v.l j a b)))
    ∙ v.invariant.1

pub loop-l-preserved : goal.loop-l-preserved
loop-l-preserved c =
    let s = c.args in
    let ys = s.compact.now.ys.now in
    let ws = s.compact.now.words.now in
    let v = c.loop-l in
    let pass : Open → Bool = passes s.q.tall s.q.climb (space s.q.y s.q.height 0) in
    let test : c.can_pass.result ≡ pass (shown_at ys ws (s.side.first + v.l)) = rw c.height_in.ensures at c.can_pass.ensures in
    let next = sym (largest-next ys ws s.side.first s.side.count pass v.l v.best c.loop-l-test.true) ∙ v.invariant.1 in (
      omega (arith, c.loop-l-test.true),
      elim c.if-can_pass.branch [
        | then-can_pass w ↦ rw w.best-is (rw (← test, w.if-can_pass.true) at next)
        | else-can_pass w ↦ rw w.best-is (rw (← test, w.if-can_pass.false) at next)
      ],
    )
