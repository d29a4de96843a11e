-- The loop that merges spans and gives their slots back: what is left of it ends as the whole would.
use mathlib.Core.Path.{◌≡◌, refl, sym, ap, ◌∙◌}
use mathlib.Core.Logic.{◌≢◌}
use mathlib.Core.List.{List, [], ◌∷◌, foldl}
use Prim.Native.Nat.{ℕ, ◌+◌, ◌-◌, ◌<◌, ◌≤◌, min, max}
use native.Mathlib.Omega.{arith}
use borrow.Author.Tests.{le-ltb, lt-ltb, le-leb, lt-leb}
use lib.ListN.{length, get_or, set, length-set}
use lib.Seq.{get_or-set_other}
use Rattle.field.specs.declared.Span.{Span}
use Rattle.field.specs.Spans.{joined, Walk, merges, stops, walk_up}
use Rattle.field.specs.Slots.{none, span_at, zeros, Slots, Sized}
use Rattle.field.specs.Inner.{Chain, Distinct, first_or, slots_from, Over, give_back, Absorbs}
use Rattle.field.proofs.Counting.{times-apart, times-first, distinct_head, distinct_tail}
use Rattle.field.proofs.Chains.{run-set, chain-unique, chain-cons, chain-nil, chain-less}
use Rattle.field.proofs.Contents.{put_other}
use Rattle.field.proofs.Walking.{walk-agree}
use Rattle.field.proofs.Giving.{sized-give}

-- ---- two spans joined

pub joined-near : (th : ℕ) (new old : Span) {f c a : ℕ} → f ≡ min new.floor old.floor → c ≡ max new.ceiling old.ceiling → a ≡ max new.area old.area → c - old.ceiling ≤ th → ◌≡◌ {A = Span} (record { floor = f; ceiling = c; area = a }) (joined th new old)
joined-near th new old {f} {c} {a} ef ec ea h =
    rw (ef, ec, ea, le-leb (max new.ceiling old.ceiling - old.ceiling) th (rw ec at h))

pub joined-far : (th : ℕ) (new old : Span) {f c : ℕ} → f ≡ min new.floor old.floor → c ≡ max new.ceiling old.ceiling → th < c - old.ceiling → ◌≡◌ {A = Span} (record { floor = f; ceiling = c; area = new.area }) (joined th new old)
joined-far th new old {f} {c} ef ec h =
    rw (ef, ec, lt-leb (max new.ceiling old.ceiling - old.ceiling) th (rw ec at h))

-- ---- the loop

-- the walk from the slots `ss` on
abbrev walk_from : ℕ → Slots → Span → List ℕ → Walk ℕ
walk_from th t new ss = walk_up (span_at t.contents) th new ss

pub record Merging (th : ℕ) (t₀ : Slots) (first : ℕ) (new : Span) (t : Slots) (at : ℕ) (span : Span) (n : ℕ) : Type 0 where
  pub ss : List ℕ
  pub left : List ℕ
  pub whole : Chain t₀.nexts first ss
  pub here : Chain t.nexts at left
  pub distinct : Distinct left
  pub over : Over t.contents.ceilings span.floor left
  pub sized₀ : Sized t₀
  pub sized : Sized t
  pub kept : length t.nexts ≡ length t₀.nexts
  pub turns : n + length left ≡ length ss
  pub gives : foldl give_back t (walk_from th t span left).merged ≡ foldl give_back t₀ (walk_from th t₀ new ss).merged
  pub widens : (walk_from th t span left).span ≡ (walk_from th t₀ new ss).span
  pub leaves : (walk_from th t span left).above ≡ (walk_from th t₀ new ss).above
  pub counts : n + length (walk_from th t span left).merged ≡ length (walk_from th t₀ new ss).merged

pub merging_start : (th : ℕ) (t : Slots) (first : ℕ) (new : Span) (ss : List ℕ) → Sized t → Chain t.nexts first ss → Distinct ss → Over t.contents.ceilings new.floor ss → Merging th t first new t first new 0
merging_start th t first new ss z c d o =
    record {
      ss = ss;
      left = ss;
      whole = c;
      here = c;
      distinct = d;
      over = o;
      sized₀ = z;
      sized = z;
      kept = refl;
      turns = omega arith;
      gives = refl;
      widens = refl;
      leaves = refl;
      counts = omega arith;
    }

-- the chain from a slot's next is left where the slot is stored to
chain-given : {nx : List ℕ} {h : ℕ} (s v : ℕ) (ss : List ℕ) → Distinct (s ∷ ss) → Chain nx h ss → Chain (set nx s v) h ss
chain-given {nx} {h} s v ss d c =
    record {
      run = run-set nx s v h ss none (distinct_head s ss d) c.run;
      short = simp length-set c.short;
      few = simp length-set c.few;
    }

-- one slot merged, and the walk on from the slots that are then left
walk-merge : (th : ℕ) (t : Slots) (span : Span) (s : ℕ) (ss : List ℕ) → Distinct (s ∷ ss) → Over t.contents.ceilings span.floor (s ∷ ss) → get_or t.contents.floors s 0 ≤ span.ceiling → walk_from th t span (s ∷ ss) ≡ merges s (walk_from th (give_back t s) (joined th span (span_at t.contents s)) ss)
walk-merge th t span s ss d o h =
    let new = joined th span (span_at t.contents s) in
    rw (le-ltb (get_or t.contents.ceilings s 0) span.floor (o s (times-first s ss)), le-ltb span.ceiling (get_or t.contents.floors s 0) h)
    (ap (merges s) (sym (walk-agree (span_at t.contents) (span_at (give_back t s).contents) th new ss (λ x p. put_other t.contents s zeros x (times-apart x s ss p (distinct_head s ss d))))))

walk-stop : (th : ℕ) (t : Slots) (span : Span) (s : ℕ) (ss : List ℕ) → Over t.contents.ceilings span.floor (s ∷ ss) → span.ceiling < get_or t.contents.floors s 0 → walk_from th t span (s ∷ ss) ≡ stops span (s ∷ ss)
walk-stop th t span s ss o h =
    rw (le-ltb (get_or t.contents.ceilings s 0) span.floor (o s (times-first s ss)), lt-ltb span.ceiling (get_or t.contents.floors s 0) h)

over-given : (t : Slots) (span : Span) (s : ℕ) (ss : List ℕ) → Distinct (s ∷ ss) → Over t.contents.ceilings span.floor (s ∷ ss) → Over (set t.contents.ceilings s 0) (min span.floor (get_or t.contents.floors s 0)) ss
over-given t span s ss d o x p =
    rw (get_or-set_other t.contents.ceilings s x 0 0 (times-apart x s ss p (distinct_head s ss d))) (omega (arith, o x (omega arith)))

module _ {th : ℕ} {t₀ : Slots} {first : ℕ} {new : Span} {t : Slots} {at : ℕ} {span : Span} {n : ℕ} (p : Merging th t₀ first new t at span n) where
  -- the slices are as long as they were
  pub merging-sizes : (length t.contents.floors ≡ length t₀.contents.floors) × (length t.contents.ceilings ≡ length t₀.contents.ceilings) × (length t.contents.areas ≡ length t₀.contents.areas)
  merging-sizes =
      let z = p.sized in
      let y = p.sized₀ in
      let k = p.kept in
      (z.floors ∙ k ∙ sym y.floors, z.ceilings ∙ k ∙ sym y.ceilings, z.areas ∙ k ∙ sym y.areas)

  module _ (there : at ≢ none) where
    next : (tl : List ℕ) × (p.left ≡ at ∷ tl) × Chain t.nexts (get_or t.nexts at 0) tl
    next = chain-cons p.left p.here there

    -- as many turns fit as there are slots
    pub merging-room : n < none
    merging-room = let k = next in omega (arith, p.turns, ap length k.1, p.whole.short, p.whole.few)

    step : get_or t.contents.floors at 0 ≤ span.ceiling → Merging th t₀ first new (give_back t at) (get_or t.nexts at 0) (joined th span (span_at t.contents at)) (n + 1)
    step h =
        let k = next in
        let d : Distinct (at ∷ k.0) = rw k.1 at p.distinct in
        let o : Over t.contents.ceilings span.floor (at ∷ k.0) = rw k.1 at p.over in
        let w : walk_from th t span p.left ≡ merges at (walk_from th (give_back t at) (joined th span (span_at t.contents at)) k.0) = ap (walk_from th t span) k.1 ∙ walk-merge th t span at k.0 d o h in
        record {
          ss = p.ss;
          left = k.0;
          whole = p.whole;
          here = chain-given at t.free k.0 d k.2;
          distinct = distinct_tail at k.0 d;
          over = over-given t span at k.0 d o;
          sized₀ = p.sized₀;
          sized = sized-give t at p.sized;
          kept = simp length-set p.kept;
          turns = omega (arith, p.turns, ap length k.1);
          gives = rw w at p.gives;
          widens = rw w at p.widens;
          leaves = rw w at p.leaves;
          counts = omega (arith, p.counts, ap (λ (v : Walk ℕ). length v.merged) w);
        }

    -- a turn as the code has it: the slot's index, the slots as `give_back` leaves them, the span as `join` gives it
    pub merging-turn : {i : ℕ} → i ≡ at → get_or t.contents.floors i 0 ≤ span.ceiling → {t' : Slots} → t' ≡ give_back t at → {span' : Span} → span' ≡ joined th span (span_at t.contents i) → Merging th t₀ first new t' (get_or t.nexts i 0) span' (n + 1)
    merging-turn {i} ei h {t'} et {span'} es = rw (et, es, ei) (step (rw ei at h))

    -- and one slot less is left
    pub merging-less : {i : ℕ} → i ≡ at → {t' : Slots} → t' ≡ give_back t at → length (slots_from t'.nexts (get_or t.nexts i 0)) < length (slots_from t.nexts at)
    merging-less {i} ei {t'} et =
        let k = next in
        let d : Distinct (at ∷ k.0) = rw k.1 at p.distinct in
        rw (et, ei) (chain-less p.left k.0 p.here k.1 (chain-given at t.free k.0 d k.2))

    pub merging-stop : span.ceiling < get_or t.contents.floors at 0 → (ss : List ℕ) → Chain t₀.nexts first ss → Absorbs th t₀ new ss t span at n
    merging-stop h ss c =
        let k = next in
        let o : Over t.contents.ceilings span.floor (at ∷ k.0) = rw k.1 at p.over in
        let w : walk_from th t span p.left ≡ stops span (at ∷ k.0) = ap (walk_from th t span) k.1 ∙ walk-stop th t span at k.0 o h in
        rw (← chain-unique p.whole c)
        (record {
          left = rw w at p.gives;
          span = rw w at p.widens;
          rest = ap (λ (l : List ℕ). first_or none l) (rw w at p.leaves);
          merged = omega (arith, p.counts, ap (λ (v : Walk ℕ). length v.merged) w);
        })

  pub merging-end : at ≡ none → (ss : List ℕ) → Chain t₀.nexts first ss → Absorbs th t₀ new ss t span at n
  merging-end e ss c =
      let k = chain-nil p.left p.here e in
      let w : walk_from th t span p.left ≡ stops span [] = ap (walk_from th t span) k in
      rw (← chain-unique p.whole c)
      (record {
        left = rw w at p.gives;
        span = rw w at p.widens;
        rest = e ∙ ap (λ (l : List ℕ). first_or none l) (rw w at p.leaves);
        merged = omega (arith, p.counts, ap (λ (v : Walk ℕ). length v.merged) w);
      })
