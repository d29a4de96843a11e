-- A filter goes from column to column: what holds after `i` of them, for any rule.
use mathlib.Core.Path.{◌≡◌, refl, ap, ◌∙◌}
use mathlib.Core.List.{List, [], ◌∷◌, map}
use Prim.Native.Nat.{ℕ, zero, suc, ◌+◌, ◌<◌, ◌≤◌}
use native.Mathlib.Omega.{arith}
use lib.ListN.{length, get_or, drop}
use lib.Seq.{drop-cons, drop-length}
use Rattle.field.specs.Slots.{contents, Contents, span_at, Slots, slots, times, times_in}
use Rattle.field.specs.Field.{Field, column_at, Holds}
use Rattle.field.specs.Inner.{Chain}
use Rattle.field.specs.Filters.{Rule, ruled, assign, assign_all, filtered}
use Rattle.field.proofs.Holding.{at_most, column-chain}
use Rattle.field.proofs.Assigning.{spans-agree, length-assign, assign_other}

times_in-drop : (x i : ℕ) (cs : List (List ℕ)) → times_in x (drop i cs) ≤ times_in x cs
times_in-drop x zero cs = omega arith
times_in-drop x (suc i) [] = omega arith
times_in-drop x (suc i) (c ∷ cs) = omega (arith, times_in-drop x i cs)

pub length-assign_all : (rule : Rule) (k : Contents) (ar : List ℕ) (i : ℕ) (cs : List (List ℕ)) → length (assign_all rule k ar i cs) ≡ length ar
length-assign_all rule k ar i [] = refl
length-assign_all rule k ar i (c ∷ cs) =
    let new = ruled (rule i) [] (map (span_at k) c) in
    length-assign_all rule k (assign ar c new) (suc i) cs ∙ length-assign ar c new

-- ---- the whole filter

-- the store with other areas
abbrev pub with_areas : Slots → List ℕ → Slots
with_areas t ar = slots t.free t.contents.floors t.contents.ceilings ar t.nexts

-- a filter leaves a sound field, in a store that differs in the areas alone
pub filtered-holds : {heads : List ℕ} {t : Slots} {f : Field} (rule : Rule) → Holds heads t f → Holds heads (with_areas t (filtered rule f).contents.areas) (filtered rule f)
filtered-holds {heads} {t} {f} rule H =
    let k = H.contents in
    let ar = (filtered rule f).contents.areas in
    record {
      sized =
          record {
            floors = H.sized.floors;
            ceilings = H.sized.ceilings;
            areas = length-assign_all rule f.contents f.contents.areas 0 f.columns ∙ ap (λ (c : Contents). length c.areas) k ∙ H.sized.areas;
          };
      few = H.few;
      wide = H.wide;
      contents = λ i. contents (k i).floors (k i).ceilings ar;
      column = H.column;
      spare = H.spare;
      once = H.once;
      ascends = H.ascends;
    }

-- ---- one column after another

-- what is left of the columns ends as the whole would, and the areas of their slots are still those from before
pub record Sweep (rule : Rule) (f : Field) (ar : List ℕ) (i : ℕ) : Type 0 where
  pub onward : assign_all rule f.contents ar i (drop i f.columns) ≡ (filtered rule f).contents.areas
  pub ahead : (x : ℕ) → 0 < times_in x (drop i f.columns) → get_or ar x 0 ≡ get_or f.contents.areas x 0

pub sweep-start : (rule : Rule) (f : Field) → Sweep rule f f.contents.areas 0
sweep-start rule f = record { onward = refl; ahead = λ x p. refl }

module _ {heads : List ℕ} {t : Slots} {f : Field} (H : Holds heads t f) (rule : Rule) where
  pub sweep-begin : Sweep rule f t.contents.areas 0
  sweep-begin = rw (← H.contents) (sweep-start rule f)

  -- the next column is given its areas
  pub sweep-step : {ar ar' : List ℕ} (i : ℕ) → i < length heads → Sweep rule f ar i
      → ((ss : List ℕ) → Chain t.nexts (get_or heads i 0) ss → ar' ≡ assign ar ss (ruled (rule i) [] (map (span_at (contents t.contents.floors t.contents.ceilings ar)) ss)))
      → Sweep rule f ar' (suc i)
  sweep-step {ar} {ar'} i l p given =
      let c = column_at f i in
      let cs = drop (suc i) f.columns in
      let split : drop i f.columns ≡ c ∷ cs = drop-cons f.columns i [] (omega (arith, H.wide)) in
      let ahead : (x : ℕ) → 0 < times x c + times_in x cs → get_or ar x 0 ≡ get_or f.contents.areas x 0 = rw split at p.ahead in
      let same : map (span_at (contents t.contents.floors t.contents.ceilings ar)) c ≡ map (span_at f.contents) c =
      rw (← H.contents) (spans-agree f.contents.floors f.contents.ceilings f.contents.areas ar c (λ x q. ahead x (omega arith))) in
      let new = ruled (rule i) [] (map (span_at f.contents) c) in
      let e : ar' ≡ assign ar c new = given c (column-chain H i l) ∙ rw same in
      let few : (x : ℕ) → times x c + times_in x cs ≤ 1 = λ x. omega (arith, at_most H x, times_in-drop x i f.columns, ap (times_in x) split) in
      record {
        onward = rw e (rw split at p.onward);
        ahead = λ x q. rw e (assign_other ar c new x (omega (arith, few x)) ∙ ahead x (omega arith));
      }

  pub sweep-end : {ar : List ℕ} {i : ℕ} → i ≡ length heads → Sweep rule f ar i → Holds heads (with_areas t ar) (filtered rule f)
  sweep-end {ar} {i} q p =
      let e : ar ≡ (filtered rule f).contents.areas = rw (q, ← H.wide, drop-length f.columns) at p.onward in
      rw e (filtered-holds rule H)
