-- What a filter leaves, span by span: each has the area that the rule gives it from the spans as they were, and a slot of no column keeps its area.
use mathlib.Core.Path.{◌≡◌, refl, sym, ap, ◌∙◌}
use mathlib.Core.Bool.{Bool, true, false, cond}
use mathlib.Core.List.{List, [], ◌∷◌, ◌++◌, map, map-map, map-append, reverse_aux, reverse}
use Prim.Native.Nat.{ℕ, zero, suc, ◌+◌, ◌<◌, ◌≤◌}
use native.Mathlib.Omega.{arith}
use native.Mathlib.Nat.{not-suc-le-zero, le_of_suc-le-suc}
use native.Mathlib.Decide.{dec_lt}
use lib.ListN.{length, get_or, length-map}
use lib.Seq.{get_or_at}
use Rattle.field.specs.declared.Span.{Span}
use Rattle.field.specs.Slots.{none, Contents, span_at, Slots, times_in}
use Rattle.field.specs.Field.{Field, column_at, spans, ranges, Holds}
use Rattle.field.specs.Inner.{Says}
use Rattle.field.specs.Beside.{beside}
use Rattle.field.specs.Ledges.{stand, Ledge}
use Rattle.field.specs.LedgeTest.{ledge}
use Rattle.field.specs.Filters.{Rule, ruled, assign, assign_all, filtered, firm, ledges}
use Rattle.field.proofs.Basics.{by-dec}
use Rattle.field.proofs.Counting.{times_in-zero}
use Rattle.field.proofs.Chains.{run_past}
use Rattle.field.proofs.Contents.{map-agree}
use Rattle.field.proofs.Holding.{at_most, contents-long}
use Rattle.field.proofs.Assigning.{length-assign, assign_other, assign-read, ruled-length}
use Rattle.field.proofs.LedgeSays.{ledge-says}

-- a filter keeps every column's floors and ceilings
pub filtered-keeps-ranges : (rule : Rule) (f : Field) (i : ℕ) → ranges (filtered rule f) i ≡ ranges f i
filtered-keeps-ranges rule f i = refl

assign_all-other : (rule : Rule) (k : Contents) (ar : List ℕ) (i : ℕ) (cs : List (List ℕ)) (x : ℕ) → times_in x cs ≡ 0 → get_or (assign_all rule k ar i cs) x 0 ≡ get_or ar x 0
assign_all-other rule k ar i [] x h = refl
assign_all-other rule k ar i (c ∷ cs) x h =
    let new = ruled (rule i) [] (map (span_at k) c) in
    assign_all-other rule k (assign ar c new) (suc i) cs x (omega arith) ∙ assign_other ar c new x (omega arith)

assign_all-read : (rule : Rule) (k : Contents) (ar : List ℕ) (i : ℕ) (cs : List (List ℕ)) → ((x : ℕ) → times_in x cs ≤ 1) → ((x : ℕ) → 0 < times_in x cs → x < length ar) → (j : ℕ) → j < length cs → map (λ s. get_or (assign_all rule k ar i cs) s 0) (get_or cs j []) ≡ ruled (rule (i + j)) [] (map (span_at k) (get_or cs j []))
assign_all-read rule k ar i [] once w j h = absurd (not-suc-le-zero h)
assign_all-read rule k ar i (c ∷ cs) once w zero h =
    let new = ruled (rule i) [] (map (span_at k) c) in
    let n : i ≡ i + 0 = omega arith in
    map-agree (λ s. get_or (assign ar c new) s 0) (λ s. get_or (assign_all rule k (assign ar c new) (suc i) cs) s 0) c (λ x p. assign_all-other rule k (assign ar c new) (suc i) cs x (omega (arith, once x)))
    ∙ assign-read ar c new (λ x. omega (arith, once x)) (λ x p. w x (omega arith)) (ruled-length (rule i) [] (map (span_at k) c) ∙ length-map c (span_at k))
    ∙ ap (λ (m : ℕ). ruled (rule m) [] (map (span_at k) c)) n
assign_all-read rule k ar i (c ∷ cs) once w (suc j) h =
    let new = ruled (rule i) [] (map (span_at k) c) in
    let n : suc i + j ≡ i + suc j = omega arith in
    assign_all-read rule k (assign ar c new) (suc i) cs (λ x. omega (arith, once x)) (λ x p. omega (arith, w x (omega arith), length-assign ar c new)) j (le_of_suc-le-suc h)
    ∙ ap (λ (m : ℕ). ruled (rule m) [] (map (span_at k) (get_or cs j []))) n

ruled-at : (rule : List Span → Span → List Span → ℕ) (below lower : List Span) (s : Span) (upper : List Span) → get_or (ruled rule below (lower ++ s ∷ upper)) (length lower) 0 ≡ rule (reverse_aux lower below) s upper
ruled-at rule below [] s upper = refl
ruled-at rule below (b ∷ lower) s upper = ruled-at rule (b ∷ below) lower s upper

module _ {heads : List ℕ} {t : Slots} {f : Field} (H : Holds heads t f) (rule : Rule) where
  in-range : (x : ℕ) → 0 < times_in x f.columns → x < length f.contents.areas
  in-range x p =
      by-dec (dec_lt x (length t.nexts)) (λ l. omega (arith, (contents-long H).areas))
      (λ n.
      absurd
      (omega (arith, times_in-zero x f.columns (λ i q. run_past t.nexts (get_or heads i 0) (column_at f i) none x (omega arith) (H.column i (omega (arith, H.wide)))))))

  -- the areas of a column
  pub filtered-column : (i : ℕ) → i < length heads → map (λ s. s.area) (spans (filtered rule f) i) ≡ ruled (rule i) [] (spans f i)
  filtered-column i l =
      map-map (λ s. s.area) (span_at (filtered rule f).contents) (column_at f i)
      ∙ assign_all-read rule f.contents f.contents.areas 0 f.columns (λ x. omega (arith, at_most H x)) in-range i (omega (arith, H.wide))
      ∙ ap (λ (m : ℕ). ruled (rule m) [] (spans f i)) (omega arith)

  -- one span of it, with those below and above
  pub filtered-span : (i : ℕ) → i < length heads → (lower : List ℕ) (s : ℕ) (upper : List ℕ) → column_at f i ≡ lower ++ s ∷ upper → get_or (filtered rule f).contents.areas s 0 ≡ rule i (reverse (map (span_at f.contents) lower)) (span_at f.contents s) (map (span_at f.contents) upper)
  filtered-span i l lower s upper e =
      let at = span_at f.contents in
      let area : ℕ → ℕ = λ x. get_or (filtered rule f).contents.areas x 0 in
      let column : map area (column_at f i) ≡ ruled (rule i) [] (map at (column_at f i)) =
      sym (map-map (λ s. s.area) (span_at (filtered rule f).contents) (column_at f i)) ∙ filtered-column i l
      in
      let both : map area lower ++ area s ∷ map area upper ≡ ruled (rule i) [] (map at lower ++ at s ∷ map at upper) =
      rw (e, map-append area lower (s ∷ upper), map-append at lower (s ∷ upper)) at column
      in
      sym (get_or_at (map area lower) (area s) (map area upper) 0 (length (map at lower)) (length-map lower area ∙ sym (length-map lower at)))
      ∙ ap (λ (l : List ℕ). get_or l (length (map at lower)) 0) both
      ∙ ruled-at (rule i) [] (map at lower) (at s) (map at upper)

  -- a slot of no column
  pub filtered-elsewhere : (x : ℕ) → times_in x f.columns ≡ 0 → get_or (filtered rule f).contents.areas x 0 ≡ get_or f.contents.areas x 0
  filtered-elsewhere x h = assign_all-other rule f.contents f.contents.areas 0 f.columns x h

-- ---- the ledges

-- at a ledge the area becomes 0, and elsewhere it stays
pub ledges-span : {heads : List ℕ} {t : Slots} {f : Field} → Holds heads t f → (w h height climb i : ℕ) → i < length heads → (lower : List ℕ) (s : ℕ) (upper : List ℕ) → column_at f i ≡ lower ++ s ∷ upper
    → (Ledge (stand height climb (span_at f.contents s) (map (span_at f.contents) upper)) (spans f) (beside w h i) → get_or (ledges w h height climb f).contents.areas s 0 ≡ 0)
    × ((Ledge (stand height climb (span_at f.contents s) (map (span_at f.contents) upper)) (spans f) (beside w h i) → ⊥) → get_or (ledges w h height climb f).contents.areas s 0 ≡ get_or f.contents.areas s 0)
ledges-span {f = f} H w h height climb i l lower s upper e =
    let at = span_at f.contents in
    let st = stand height climb (at s) (map at upper) in
    let b = ledge st (spans f) (beside w h i) in
    let k = filtered-span H (λ i below s above. firm height climb (spans f) (beside w h i) s above) i l lower s upper e in
    (λ y. k ∙ (chosen b (ledge-says st (spans f) (beside w h i))).0 y, λ n. k ∙ (chosen b (ledge-says st (spans f) (beside w h i))).1 n)
  where
    chosen : {P : Type 0} {a : ℕ} (b : Bool) → Says b P → (P → cond b 0 a ≡ 0) × ((P → ⊥) → cond b 0 a ≡ a)
    chosen true p = (λ y. refl, λ n. absurd (n p))
    chosen false p = (λ y. absurd (p y), λ n. refl)
