-- `clip::cut::go_round` meets its contract.
use mathlib.Core.Path.{◌≡◌, refl, sym, ap, ◌∙◌}
use mathlib.Core.List.{List, ◌++◌}
use Prim.Native.Nat.{◌-◌}
use native.Mathlib.Omega.{arith}
use lib.Ieee.{nan}
use lib.ListN.{length, length-append, take}
use Rattle.std.specs.Prelude.{Some}
use Rattle.std.specs.List.{slice_get}
use Rattle.grid.specs.declared.Corner.{Corner}
use Rattle.clip.specs.Cut.{to_first, to_second, distance, onward, around, gives_first, gives_second}
use Rattle.clip.proofs.Rounds.{none-last, around-last, around-none, onward-all, turn-next, last-next, first_two, second-two}
use Rattle.clip.proofs.cut.go_round.Goals as goal
use Rattle.clip.proofs.cut.go_round.Goals.{After-loop-v}
use Rattle.clip.proofs.cut.go_round.Given.{Over}

pub returns-in_default-clause-counts : goal.returns-in_default-clause-counts
returns-in_default-clause-counts g c =
    let a = c.args in
    let none = none-last a.vs.now c.in_default.ensures.value in
    (sym (ap length (around-none (gives_first a.axis a.offset) a.vs.now none)), sym (ap length (around-none (gives_second a.axis a.offset) a.vs.now none)))

pub returns-in_default-clause-first : goal.returns-in_default-clause-first
returns-in_default-clause-first g c =
    let a = c.args in
    g.met.F.Part.holding_none _ ∙ ap (λ vs. g.F.Part.holding a.first.now vs) (sym (around-none (gives_first a.axis a.offset) a.vs.now (none-last a.vs.now c.in_default.ensures.value)))

pub returns-in_default-clause-second : goal.returns-in_default-clause-second
returns-in_default-clause-second g c =
    let a = c.args in
    g.met.S.Part.holding_none _ ∙ ap (λ vs. g.S.Part.holding a.second.now vs) (sym (around-none (gives_second a.axis a.offset) a.vs.now (none-last a.vs.now c.in_default.ensures.value)))

pub loop-v-init : goal.loop-v-init
unfolding onward
loop-v-init g c =
    let start = c.of-b.ensures in
    record {
      few_first = omega arith;
      few_second = omega arith;
      before = refl;
      offset_of = start.d ∙ ap (λ (v : Corner). distance c.args.axis c.args.offset v) (sym start.vertex);
      tested = start.before;
      many_first = refl;
      many_second = refl;
      first = g.met.F.Part.holding_none _;
      second = g.met.S.Part.holding_none _;
    }

pub turn-n-requires : goal.turn-n-requires
turn-n-requires g c =
    let v = c.loop-v in
    record {
      room = (omega (arith, v.invariant.few_first, c.loop-v-test.true, c.requires), omega (arith, v.invariant.few_second, c.loop-v-test.true, c.requires));
      tested = (v.invariant.tested, c.of-a.ensures.before);
    }

pub loop-v-preserved : goal.loop-v-preserved
loop-v-preserved g c =
    let v = c.loop-v in
    let a = c.args in
    let t = c.turn-n in
    let next = c.of-a in
    let inside = c.loop-v-test.true in
    let b = c.of-b.result.vertex in
    let o : Corner = record { x = nan; y = nan; z = nan } in
    let firsts = ap (λ (w : Corner). onward (gives_first a.axis a.offset) b (take v.v-index a.vs.now) ++ to_first v.b.vertex w v.b.d next.result.d) next.ensures.vertex
    ∙ turn-next a.axis a.offset to_first b o a.vs.now v.v-index inside v.b.vertex v.b.d _ v.invariant.before v.invariant.offset_of next.ensures.d in
    let seconds = ap (λ (w : Corner). onward (gives_second a.axis a.offset) b (take v.v-index a.vs.now) ++ to_second v.b.vertex w v.b.d next.result.d) next.ensures.vertex
    ∙ turn-next a.axis a.offset to_second b o a.vs.now v.v-index inside v.b.vertex v.b.d _ v.invariant.before v.invariant.offset_of next.ensures.d in
    record {
      few_first = omega (arith, t.ensures.counts.0, first_two v.b.vertex next.result.vertex v.b.d next.result.d, v.invariant.few_first);
      few_second = omega (arith, t.ensures.counts.1, second-two v.b.vertex next.result.vertex v.b.d next.result.d, v.invariant.few_second);
      before = next.ensures.vertex ∙ last-next b o a.vs.now v.v-index inside;
      offset_of = next.ensures.d ∙ ap (λ (w : Corner). distance a.axis a.offset w) (sym next.ensures.vertex);
      tested = next.ensures.before;
      many_first = ap length (sym firsts) ∙ length-append (onward (gives_first a.axis a.offset) b (take v.v-index a.vs.now)) _ ∙ rw (v.invariant.many_first) (sym t.ensures.counts.0);
      many_second = ap length (sym seconds) ∙ length-append (onward (gives_second a.axis a.offset) b (take v.v-index a.vs.now)) _ ∙ rw (v.invariant.many_second) (sym t.ensures.counts.1);
      first = t.ensures.first _ _ v.invariant.many_first v.invariant.first ∙ ap (λ vs. g.F.Part.holding a.first.now vs) firsts;
      second = t.ensures.second _ _ v.invariant.many_second v.invariant.second ∙ ap (λ vs. g.S.Part.holding a.second.now vs) seconds;
    }

-- the round is over once all vertices are passed
module _ (g : Over) (c : After-loop-v g) where
  start : Some c.of-b.result.vertex ≡ slice_get c.args.vs.now (length c.args.vs.now - 1)
  start = ap (λ (v : Corner). Some v) c.of-b.ensures.vertex ∙ c.in-Some.ensures.value

  round : (gives : Corner → Corner → List Corner) → onward gives c.of-b.result.vertex (take c.loop-v.v-index c.args.vs.now) ≡ around gives c.args.vs.now
  round gives =
      onward-all gives c.of-b.result.vertex c.args.vs.now c.loop-v.v-index c.loop-v.auto.v-index-end c.loop-v-test.false ∙ sym (around-last gives _ c.args.vs.now start)

pub returns-clause-counts : goal.returns-clause-counts
returns-clause-counts g c = (
  sym c.loop-v.invariant.many_first ∙ ap length (round g c (gives_first c.args.axis c.args.offset)),
  sym c.loop-v.invariant.many_second ∙ ap length (round g c (gives_second c.args.axis c.args.offset)),
)

pub returns-clause-first : goal.returns-clause-first
returns-clause-first g c = c.loop-v.invariant.first ∙ ap (λ vs. g.F.Part.holding c.args.first.now vs) (round g c (gives_first c.args.axis c.args.offset))

pub returns-clause-second : goal.returns-clause-second
returns-clause-second g c = c.loop-v.invariant.second ∙ ap (λ vs. g.S.Part.holding c.args.second.now vs) (round g c (gives_second c.args.axis c.args.offset))
