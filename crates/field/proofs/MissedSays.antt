-- What reply 12 says of the links: it is given exactly where a layer of 63 or more is missed, and carries the largest such layer. Layer 62 gives none.
use mathlib.Core.Path.{◌≡◌, sym, ap, ap₂, subst, ◌∙◌}
use mathlib.Core.Logic.{◌≢◌, ⊎_elim}
use mathlib.Core.Bool.{Bool, true}
use mathlib.Core.List.{List, [], ◌∷◌, map, flatten}
use Prim.Native.Nat.{ℕ, ◌+◌, ◌*◌, ◌/◌, ◌%◌, ◌<◌, ◌≤◌}
use native.Mathlib.Omega.{arith}
use native.Mathlib.Nat.{mod-add-div', not-suc-le-zero}
use borrow.Author.Tests.{eqb-true, eqb-false}
use lib.ListN.{length, get_or, length-map}
use lib.Dec.{eqb}
use lib.Ieee.{Float}
use Rattle.replies.specs.Said.{Said, whole, real, say}
use Rattle.grid.specs.declared.Grid.{Grid}
use Rattle.grid.specs.Grid.{width, height}
use Rattle.field.specs.declared.Span.{Span}
use Rattle.field.specs.Slots.{none}
use Rattle.field.specs.Field.{Field, spans}
use Rattle.field.specs.Store.{Store}
use Rattle.field.specs.Beside.{beside_at, beside}
use Rattle.field.specs.Open.{Open, opens, columns_of, cells}
use Rattle.field.specs.Links.{passes, missed, around, missed_of, for_each, largest_missed}
use Rattle.field.specs.Compact.{Result, Room, complete, Outcome, raised_top, complete_says}
use Rattle.field.specs.Linked.{Completed, Missed}
use Rattle.field.proofs.Basics.{by-test}
use Rattle.field.proofs.Lists.{greatest-over, greatest-at}
use Rattle.field.proofs.Beside.{place, beside_at_lem}
use Rattle.field.proofs.Opening.{earlier, cell_at, nowhere}
use Rattle.field.proofs.ReadingBack.{cell-inside}
use Rattle.field.proofs.Sides.{for_each-length}
use Rattle.field.proofs.Floors.{open_of, floor-open, open-floor, can-passes, passes-can, step-beside, step-direction, beside-step}
use Rattle.field.proofs.Reading.{mapped, for_each-at}
use Rattle.field.proofs.LinkFacts.{in_all, off-grid, link-is}
use Rattle.field.proofs.Missing.{missed-over, missed-there, for_each-where}
use Rattle.field.proofs.LinkSays.{made, few, indexed, counts-fit, column-is}

-- ---- of a complete result, where `col i` is column `i`

module _ (tall climb w h : ℕ) (all : List (List Span)) (t : Result) (wide : length all ≡ w * h) (few : w * h ≤ 1048576) (li : length all ≤ length t.indices) (lc : length all ≤ length t.counts) (r : Room (length (flatten (cells all))) t.rows) (col : ℕ → List Span) (is : (i : ℕ) → get_or all i [] ≡ col i) where
  abbrev pass : Open → Open → Bool
  pass = passes tall climb

  abbrev res : Result
  res = complete pass w h all t

  abbrev most : ℕ
  most = largest_missed pass w h (cells all)

  -- what an open space misses, beside column `i`
  abbrev missed_from : ℕ → Open → ℕ
  missed_from i = missed_of pass (around w h (cells all) i)

  cell-is : (i : ℕ) → get_or (cells all) i [] ≡ opens (col i)
  cell-is i = cell_at all i ∙ ap opens (is i)

  in_cells : (i : ℕ) → i < length all → i < length (cells all)
  in_cells i l = omega (arith, length-map all opens)

  -- in one direction
  side-missed : (x z d : ℕ) → x < w → d < 4 → (o : Open) → get_or (map (missed (pass o)) (around w h (cells all) (x + z * w))) d 0 ≡ missed (pass o) (opens (col (get_or (beside_at w h x z) d none)))
  side-missed x z d p l o =
      mapped (missed (pass o)) (around w h (cells all) (x + z * w)) [] 0 d l
      ∙ ap (missed (pass o)) (mapped (λ k. get_or (cells all) k []) (beside w h (x + z * w)) none [] d l ∙ cell-is (get_or (beside w h (x + z * w)) d none) ∙ ap (λ (ks : List ℕ). opens (col (get_or ks d none))) (beside_at_lem w h x z p))

  -- a missed layer is no more than the largest
  missed-most : (l : ℕ) → Missed w h col res tall climb l → l ≤ most
  missed-most l m =
      let i = m.x + m.z * w in
      let j = in_all tall climb w h all t wide few li lc r col is m.x m.z m.from-grid.0 m.from-grid.1 in
      let o = open_of m.floor in
      let ns = opens (col (m.x' + m.z' * w)) in
      let beside-is = step-beside w h m.d m.x m.z m.x' m.z' m.step m.on-grid.0 m.on-grid.1 in
      let dir = step-direction m.d m.x m.z m.x' m.z' m.step in
      let fl = floor-open m.floor in
      let th = floor-open m.there in
      let empty = sym (link-is tall climb w h all t wide few li lc r col is m.x m.z m.from-grid.0 m.from-grid.1 m.floor m.d dir) ∙ m.empty in
      let in_cell : m.layer < length (get_or (cells all) i []) = rw (cell-is i) fl.0 in
      let one : l ≤ missed (pass o) ns =
      missed-over (pass o) ns l (rw beside-is at empty) m.high th.0 (ap (pass o) th.1 ∙ can-passes tall climb m.floor m.there m.can)
      in
      let two : missed (pass o) ns ≤ missed_from i o =
      rw (side-missed m.x m.z m.d m.from-grid.0 dir o, beside-is) at ((greatest-over 0 (map (missed (pass o)) (around w h (cells all) i))).1 m.d dir)
      in
      let entry : get_or (for_each missed_from 0 (cells all)) (earlier all i + m.layer) 0 ≡ missed_from i o =
      for_each-at missed_from 0 (cells all) i m.layer (in_cells i j) in_cell
      ∙ ap₂ missed_from (let n : 0 + i ≡ i = omega arith in n) (ap (λ (c : List Open). get_or c m.layer nowhere) (cell-is i) ∙ fl.1)
      in
      omega (arith, one, two, entry, (greatest-over 0 (for_each missed_from 0 (cells all))).1 (earlier all i + m.layer) (omega (arith, for_each-length missed_from 0 (cells all), cell-inside (cells all) i (in_cells i j))))

  -- one open space that misses a layer in some direction
  misses-at : (x z layer v : ℕ) → x < w → z < h → layer < length (opens (col (x + z * w))) → v ≢ 0 → v ≡ missed_from (x + z * w) (get_or (opens (col (x + z * w))) layer nowhere) → Missed w h col res tall climb v
  misses-at x z layer v p q l n e =
      let a = open-floor (col (x + z * w)) layer l in
      let o = open_of a.floor in
      let e' : v ≡ missed_from (x + z * w) o = e ∙ ap (missed_from (x + z * w)) a.is in
      ⊎_elim (λ z. absurd (n (e' ∙ z)))
      (λ k.
      let d = k.0 in
      let found : v ≡ missed (pass o) (opens (col (get_or (beside_at w h x z) d none))) = e' ∙ k.2 ∙ side-missed x z d p k.1 o in
      let m = missed-there (pass o) (opens (col (get_or (beside_at w h x z) d none))) (λ y. n (found ∙ y)) in
      let on : get_or (beside_at w h x z) d none ≢ none =
      λ y. not-suc-le-zero (subst (λ (c : List Span). m.layer < length (opens c)) (ap col y ∙ off-grid tall climb w h all t wide few li lc r col is) m.inside)
      in
      let s = beside-step w h d x z p q on in
      let k' = s.x' + s.z' * w in
      let b = open-floor (col k') m.layer (subst (λ (y : ℕ). m.layer < length (opens (col y))) s.is m.inside) in
      let hit : pass o (get_or (opens (col k')) m.layer nowhere) ≡ true = ap (λ (y : ℕ). pass o (get_or (opens (col y)) m.layer nowhere)) (sym s.is) ∙ m.passes in
      subst (Missed w h col res tall climb) (sym (found ∙ m.is))
      (record {
        x = x;
        z = z;
        from-grid = (p, q);
        layer = layer;
        floor = a.floor;
        d = d;
        x' = s.x';
        z' = s.z';
        step = s.step;
        on-grid = s.on-grid;
        high = m.high;
        there = b.floor;
        can = passes-can tall climb a.floor b.floor (ap (pass o) (sym b.is) ∙ hit);
        empty = link-is tall climb w h all t wide few li lc r col is x z p q a.floor d k.1 ∙ m.empty;
      }))
      (greatest-at 0 (map (missed (pass o)) (around w h (cells all) (x + z * w))))

  -- the largest is missed, unless it is 0
  most-missed : most ≢ 0 → Missed w h col res tall climb most
  most-missed n =
      ⊎_elim (λ e. absurd (n e))
      (λ k.
      let v = for_each-where missed_from 0 (cells all) k.0 k.1 in
      let i = v.column in
      let l : i < w * h = omega (arith, v.in_cells, length-map all opens) in
      let at = place i w h l in
      let e : i ≡ i % w + i / w * w = sym (mod-add-div' i w) in
      let inside : v.layer < length (opens (col i)) = rw (cell-is i) at v.in_cell in
      let entry : most ≡ missed_from i (get_or (opens (col i)) v.layer nowhere) =
      k.2
      ∙ ap (λ (y : ℕ). get_or (for_each missed_from 0 (cells all)) y 0) v.is
      ∙ for_each-at missed_from 0 (cells all) i v.layer v.in_cells v.in_cell
      ∙ ap₂ missed_from (let y : 0 + i ≡ i = omega arith in y) (ap (λ (c : List Open). get_or c v.layer nowhere) (cell-is i))
      in
      misses-at (i % w) (i / w) v.layer most at.0 at.1
      (subst (λ (y : ℕ). v.layer < length (opens (col y))) e inside) n
      (subst (λ (y : ℕ). most ≡ missed_from y (get_or (opens (col y)) v.layer nowhere)) e entry))
      (greatest-at 0 (for_each missed_from 0 (cells all)))

-- ---- the promises

says-zero : (m : ℕ) (top : Float) → (complete_says m top).number ≡ 0 → m ≡ 0
says-zero m top e = by-test (eqb m 0) (λ q. eqb-true m 0 q) (λ q. absurd (let n : ◌≡◌ {A = ℕ} 12 0 = rw q at e in omega arith))

says-twelve : (m : ℕ) (top : Float) → (complete_says m top).number ≡ 12 → (m ≢ 0) × (complete_says m top ≡ say 12 (whole m ∷ real top ∷ []))
says-twelve m top e = by-test (eqb m 0) (λ q. absurd (let n : ◌≡◌ {A = ℕ} 0 12 = rw q at e in omega arith)) (λ q. (eqb-false m 0 q, rw q))

module _ {g : Grid} {tall climb : ℕ} {s : Store} {t : Result} {o : Outcome} {f : Field} (call : Completed g tall climb s t o f) where
  -- layer `l` is missed in the result that the call left
  abbrev pub MissedHere : ℕ → Type 0
  MissedHere l = Missed (width g) (height g) (spans f) o.result tall climb l

  abbrev most_here : ℕ
  most_here = largest_missed (passes tall climb) (width g) (height g) (cells (columns_of f))

  below-most : (l : ℕ) → MissedHere l → l ≤ most_here
  below-most l m =
      missed-most tall climb (width g) (height g) (columns_of f) t (made call).wide (few call) (indexed call) (counts-fit call) (made call).room (spans f) (column-is call) l
      (subst (λ (r : Result). Missed (width g) (height g) (spans f) r tall climb l) (made call).made m)

  -- With reply 0 no layer is missed.
  pub zero-misses-none : o.said.number ≡ 0 → (l : ℕ) → MissedHere l → ⊥
  zero-misses-none z l m =
      let n = says-zero most_here (raised_top g tall) (sym (ap (λ (s : Said). s.number) (made call).says) ∙ z) in
      omega (arith, below-most l m, m.high)

  -- With reply 12 one is, and the reply carries the largest.
  pub twelve-says-the-largest : o.said.number ≡ 12 → ((l : ℕ) × (o.said ≡ say 12 (whole l ∷ real (raised_top g tall) ∷ [])) × MissedHere l × ((l' : ℕ) → MissedHere l' → l' ≤ l))
  twelve-says-the-largest z =
      let n = says-twelve most_here (raised_top g tall) (sym (ap (λ (s : Said). s.number) (made call).says) ∙ z) in
      (most_here, (made call).says ∙ n.1, subst (λ (r : Result). Missed (width g) (height g) (spans f) r tall climb most_here) (sym (made call).made) (most-missed tall climb (width g) (height g) (columns_of f) t (made call).wide (few call) (indexed call) (counts-fit call) (made call).room (spans f) (column-is call) n.0), below-most)
