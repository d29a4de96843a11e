-- The links of a complete compact result, floor by floor: where each leads, and that it is the lowest. LinkSays.antt says the same of what the call leaves.
use mathlib.Core.Path.{◌≡◌, sym, ap, subst, ◌∙◌}
use mathlib.Core.Logic.{◌≢◌}
use mathlib.Core.Bool.{Bool}
use mathlib.Core.List.{List, [], flatten}
use Prim.Native.Nat.{ℕ, ◌+◌, ◌*◌, ◌<◌, ◌≤◌}
use native.Mathlib.Omega.{arith}
use lib.ListN.{length, get_or, get_or-eq_default}
use Rattle.compact_span.specs.Word.{empty_mark}
use Rattle.grid.proofs.Places.{cell_below}
use Rattle.field.specs.declared.Span.{Span}
use Rattle.field.specs.Slots.{none}
use Rattle.field.specs.Beside.{beside_at, beside}
use Rattle.field.specs.Open.{Open, opens, cells}
use Rattle.field.specs.Links.{passes, link}
use Rattle.field.specs.Compact.{Result, Room, complete}
use Rattle.field.specs.Linked.{Floor, CanStep, Step, link_from, Stored, Leads}
use Rattle.field.proofs.Basics.{only}
use Rattle.field.proofs.Beside.{beside_at_lem}
use Rattle.field.proofs.Opening.{nowhere}
use Rattle.field.proofs.Floors.{open_of, floor-open, open-floor, can-passes, passes-can, none-so-tall, step-beside, step-direction, beside-step}
use Rattle.field.proofs.Reading.{link-found, link-least, count-read, y-read, area-read, height-read, link-read}

-- `all` are the columns, and `col i` is the one with number `i`
module _ (tall climb w h : ℕ) (all : List (List Span)) (t : Result) (wide : length all ≡ w * h) (few : w * h ≤ 1048576) (li : length all ≤ length t.indices) (lc : length all ≤ length t.counts) (r : Room (length (flatten (cells all))) t.rows) (col : ℕ → List Span) (is : (i : ℕ) → get_or all i [] ≡ col i) where
  abbrev pub pass : Open → Open → Bool
  pass = passes tall climb

  abbrev pub res : Result
  res = complete pass w h all t

  -- off the grid is no floor
  pub off-grid : col none ≡ []
  off-grid = sym (is none) ∙ get_or-eq_default all [] {n = none} (omega arith)

  pub in_all : (x z : ℕ) → x < w → z < h → x + z * w < length all
  in_all x z p q = omega (arith, cell_below x z w h p q)

  pub counted : (x z : ℕ) → x < w → z < h → get_or res.counts (x + z * w) 0 ≡ length (opens (col (x + z * w)))
  counted x z p q =
      count-read pass w h all t li lc r (x + z * w) (in_all x z p q)
      ∙ ap (λ (c : List Span). length (opens c)) (is (x + z * w))

  module _ (x z : ℕ) (p : x < w) (q : z < h) {layer : ℕ} (a : Floor (col (x + z * w)) layer) where
    -- the open space above the floor
    pub opened : get_or (opens (get_or all (x + z * w) [])) layer nowhere ≡ open_of a
    opened = ap (λ (c : List Span). get_or (opens c) layer nowhere) (is (x + z * w)) ∙ (floor-open a).1

    pub there : layer < length (opens (get_or all (x + z * w) []))
    there = rw (is (x + z * w)) (floor-open a).0

    pub stored : Stored res (x + z * w) a
    stored =
        let i = x + z * w in
        let l = in_all x z p q in
        record {
          counted = rw (counted x z p q) (floor-open a).0;
          y = y-read pass w h all t li lc r i layer l there ∙ ap (λ (o : Open). o.y) opened;
          height = height-read pass w h all t li lc r i layer l there ∙ ap (λ (o : Open). o.height) opened;
          area = area-read pass w h all t li lc r i layer l there ∙ ap (λ (o : Open). o.area) opened;
        }

    abbrev pub linked : ℕ → ℕ
    linked d = link_from res (x + z * w) layer d

    -- the link in a direction is that to the floors of the column with number `k`
    abbrev pub among : ℕ → ℕ
    among k = link (pass (open_of a)) (opens (col k))

    pub link-is : (d : ℕ) → d < 4 → linked d ≡ among (get_or (beside_at w h x z) d none)
    link-is d l =
        let i = x + z * w in
        link-read pass w h all t li lc r i layer (in_all x z p q) there d l
        ∙ ap (λ (o : Open). link (pass o) (opens (get_or all (get_or (beside w h i) d none) []))) opened
        ∙ ap (λ (ks : List ℕ). link (pass (open_of a)) (opens (get_or all (get_or ks d none) []))) (beside_at_lem w h x z p)
        ∙ ap (λ (c : List Span). link (pass (open_of a)) (opens c)) (is (get_or (beside_at w h x z) d none))

    pub leads : (d : ℕ) → d < 4 → linked d ≢ empty_mark → Leads w h col res.counts tall climb x z d a (linked d)
    leads d l n =
        let on : get_or (beside_at w h x z) d none ≢ none = λ e. n (link-is d l ∙ ap among e ∙ ap (λ (c : List Span). link (pass (open_of a)) (opens c)) off-grid) in
        let s = beside-step w h d x z p q on in
        let k = s.x' + s.z' * w in
        let e : linked d ≡ among k = link-is d l ∙ ap among s.is in
        let f = link-found (pass (open_of a)) (opens (col k)) (λ m. n (e ∙ m)) in
        let b = open-floor (col k) f.layer f.inside in
        let m : linked d ≡ f.layer = omega (arith, e, f.is) in
        subst (λ (m : ℕ). Leads w h col res.counts tall climb x z d a m) (sym m)
        (record {
          x' = s.x';
          z' = s.z';
          step = s.step;
          on-grid = s.on-grid;
          counted = rw (counted s.x' s.z' s.on-grid.0 s.on-grid.1) f.inside;
          low = omega (arith, f.low);
          floor = b.floor;
          can = passes-can tall climb a b.floor (ap (pass (open_of a)) (sym b.is) ∙ f.passes);
        })

    pub least : (d x' z' l : ℕ) → Step d x z x' z' → x' < w → z' < h → (b : Floor (col (x' + z' * w)) l) → l ≤ 61 → CanStep tall climb a b → linked d ≤ l
    least d x' z' l s p' q' b low k =
        let e : linked d ≡ among (x' + z' * w) = link-is d (step-direction d x z x' z' s) ∙ ap among (step-beside w h d x z x' z' s p' q') in
        let o = floor-open b in
        omega (arith, e, link-least (pass (open_of a)) (opens (col (x' + z' * w))) l low o.0 (ap (pass (open_of a)) o.1 ∙ can-passes tall climb a b k))

    pub none-linked : 256 ≤ tall → (d : ℕ) → d < 4 → linked d ≡ empty_mark
    none-linked g d l = only (linked d) empty_mark (λ n. let s = leads d l n in none-so-tall tall climb a s.floor g s.can)
