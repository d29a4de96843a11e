-- The definitions agree with the rules' worked insertions P1 to P6 and filters P10 and P11: one table, one computed test of an entry, and one law that turns
-- the test into what the entry states.
use mathlib.Core.Path.{◌≡◌, refl, sym, ap₂, subst}
use mathlib.Core.Logic.{inl, inr}
use mathlib.Core.Bool.{Bool, true, false, cond, ◌&&◌}
use mathlib.Core.List.{List, [], ◌∷◌, map}
use Prim.Native.Nat.{ℕ}
use borrow.Author.Tests.{eqb-true}
use lib.Dec.{eqb}
use lib.ListN.{get_or}
use Rattle.field.specs.declared.Span.{Span}
use Rattle.field.specs.Slots.{contents}
use Rattle.field.specs.Field.{Field, spans, fresh_field, insert}
use Rattle.field.specs.Stretches.{In}
use Rattle.field.specs.Filters.{low_obstacles, low_ceilings}
use Rattle.field.proofs.Basics.{true-false}

-- ---- the table

abbrev span : ℕ → ℕ → ℕ → Span
span floor ceiling area = record { floor = floor; ceiling = ceiling; area = area }

-- A field of one column; spans offered to it one after another, with one threshold; the reply to each; a filter run then. At the end: what the column
-- lists, the free slots from the front on, and their areas.
pub record Case : Type 0 where
  pub begins : Field
  pub threshold : ℕ
  pub offers : List Span
  pub replies : List ℕ
  pub filter : Field → Field
  pub leaves : List Span
  pub free : List ℕ
  pub idle : List ℕ

abbrev try_filter : Field → ℕ → List Span → List ℕ → (Field → Field) → List Span → List ℕ → List ℕ → Case
try_filter begins threshold offers replies filter leaves free idle =
    record { begins = begins; threshold = threshold; offers = offers; replies = replies; filter = filter; leaves = leaves; free = free; idle = idle }

-- no filter is run, and free slots have area 0
abbrev try : ℕ → ℕ → List Span → List ℕ → List Span → List ℕ → Case
try slots threshold offers replies leaves free = try_filter (fresh_field 1 slots) threshold offers replies (λ f. f) leaves free (map (λ k. 0) free)

-- two free slots, the second with an area that nobody has cleared
abbrev unclean : Field
unclean = record { columns = [] ∷ []; spare = 0 ∷ 1 ∷ []; contents = contents (0 ∷ 0 ∷ []) (0 ∷ 0 ∷ []) (0 ∷ 77 ∷ []) }

pub table : List Case
table =
    try 4 1 (span 2 5 3 ∷ span 5 9 1 ∷ []) (0 ∷ 0 ∷ []) (span 2 9 1 ∷ []) (1 ∷ 2 ∷ 3 ∷ [])  -- P1
    ∷ try 4 1 (span 2 5 3 ∷ span 4 6 1 ∷ []) (0 ∷ 0 ∷ []) (span 2 6 3 ∷ []) (1 ∷ 2 ∷ 3 ∷ [])  -- P2
    ∷ try 4 0 (span 2 5 1 ∷ span 7 9 2 ∷ span 6 6 3 ∷ []) (0 ∷ 0 ∷ 0 ∷ []) (span 2 5 1 ∷ span 6 6 3 ∷ span 7 9 2 ∷ []) (3 ∷ [])  -- P3
    ∷ try 4 0 (span 2 5 3 ∷ span 7 9 4 ∷ span 5 7 1 ∷ []) (0 ∷ 0 ∷ 0 ∷ []) (span 2 9 4 ∷ []) (0 ∷ 2 ∷ 3 ∷ [])  -- P4
    ∷ try 4 0 (span 0 1 9 ∷ span 1 9 1 ∷ []) (0 ∷ 0 ∷ []) (span 0 9 1 ∷ []) (1 ∷ 2 ∷ 3 ∷ [])  -- P5
    ∷ try 4 0 (span 1 9 1 ∷ span 0 1 9 ∷ []) (0 ∷ 0 ∷ []) (span 0 9 9 ∷ []) (1 ∷ 2 ∷ 3 ∷ [])  -- P5, the other order
    ∷ try 1 0 (span 2 5 3 ∷ span 6 7 1 ∷ []) (0 ∷ 5 ∷ []) (span 2 5 3 ∷ []) []  -- P6
    ∷ try 1 0 (span 2 5 3 ∷ span 5 7 1 ∷ []) (0 ∷ 0 ∷ []) (span 2 7 1 ∷ []) []  -- P6, a span that shares a height
    ∷ try_filter (fresh_field 1 4) 0 (span 0 1 5 ∷ span 3 4 0 ∷ span 5 6 0 ∷ []) (0 ∷ 0 ∷ 0 ∷ []) (low_obstacles 3) (span 0 1 5 ∷ span 3 4 5 ∷ span 5 6 0 ∷ []) (3 ∷ []) (0 ∷ [])  -- P10
    ∷ try_filter (fresh_field 1 2) 0 (span 0 65530 7 ∷ []) (0 ∷ []) (low_ceilings 5) (span 0 65530 7 ∷ []) (1 ∷ []) (0 ∷ [])  -- P11
    ∷ try_filter (fresh_field 1 2) 0 (span 0 65530 7 ∷ []) (0 ∷ []) (low_ceilings 6) (span 0 65530 0 ∷ []) (1 ∷ []) (0 ∷ [])  -- P11, one more
    ∷ try_filter unclean 0 (span 0 65530 7 ∷ []) (0 ∷ []) (low_ceilings 6) (span 0 65530 0 ∷ []) (1 ∷ []) (77 ∷ [])  -- a free slot's area stays
    ∷ []

-- ---- what an entry states

-- the replies, and the field that is left
abbrev pub replies_to : ℕ → Field → List Span → List ℕ
replies_to threshold f [] = []
replies_to threshold f (s ∷ ss) =
    let o = insert threshold f 0 s in
    cond o.accepted 0 5 ∷ replies_to threshold o.field ss

abbrev pub field_after : ℕ → Field → List Span → Field
field_after threshold f [] = f
field_after threshold f (s ∷ ss) = field_after threshold (insert threshold f 0 s).field ss

abbrev pub end_of : Case → Field
end_of c = c.filter (field_after c.threshold c.begins c.offers)

abbrev pub Right : Case → Type 0
Right c =
    (replies_to c.threshold c.begins c.offers ≡ c.replies)
    × (spans (end_of c) 0 ≡ c.leaves)
    × ((end_of c).spare ≡ c.free)
    × (map (λ k. get_or (end_of c).contents.areas k 0) (end_of c).spare ≡ c.idle)

-- ---- the test, and what it shows

abbrev same_numbers : List ℕ → List ℕ → Bool
same_numbers [] [] = true
same_numbers [] (y ∷ ys) = false
same_numbers (x ∷ xs) [] = false
same_numbers (x ∷ xs) (y ∷ ys) = eqb x y && same_numbers xs ys

abbrev same_span : Span → Span → Bool
same_span a b = eqb a.floor b.floor && (eqb a.ceiling b.ceiling && eqb a.area b.area)

abbrev same_spans : List Span → List Span → Bool
same_spans [] [] = true
same_spans [] (b ∷ bs) = false
same_spans (a ∷ as') [] = false
same_spans (a ∷ as') (b ∷ bs) = same_span a b && same_spans as' bs

abbrev right : Case → Bool
right c =
    same_numbers (replies_to c.threshold c.begins c.offers) c.replies
    && (same_spans (spans (end_of c) 0) c.leaves
    && (same_numbers (end_of c).spare c.free
    && same_numbers (map (λ k. get_or (end_of c).contents.areas k 0) (end_of c).spare) c.idle))

both : (a b : Bool) → (a && b) ≡ true → (a ≡ true) × (b ≡ true)
both true b e = (refl, e)
both false b e = absurd (true-false (sym e))

numbers-same : (xs ys : List ℕ) → same_numbers xs ys ≡ true → xs ≡ ys
numbers-same [] [] e = refl
numbers-same [] (y ∷ ys) e = absurd (true-false (sym e))
numbers-same (x ∷ xs) [] e = absurd (true-false (sym e))
numbers-same (x ∷ xs) (y ∷ ys) e =
    let k = both (eqb x y) (same_numbers xs ys) e in
    ap₂ (λ (n : ℕ) (l : List ℕ). n ∷ l) (eqb-true x y k.0) (numbers-same xs ys k.1)

span_same : (a b : Span) → same_span a b ≡ true → a ≡ b
span_same a b e =
    let k = both (eqb a.floor b.floor) (eqb a.ceiling b.ceiling && eqb a.area b.area) e in
    let m = both (eqb a.ceiling b.ceiling) (eqb a.area b.area) k.1 in
    let f = eqb-true a.floor b.floor k.0 in
    let c = eqb-true a.ceiling b.ceiling m.0 in
    let r = eqb-true a.area b.area m.1 in
    λ i. record { floor = f i; ceiling = c i; area = r i }

spans-same : (as' bs : List Span) → same_spans as' bs ≡ true → as' ≡ bs
spans-same [] [] e = refl
spans-same [] (b ∷ bs) e = absurd (true-false (sym e))
spans-same (a ∷ as') [] e = absurd (true-false (sym e))
spans-same (a ∷ as') (b ∷ bs) e =
    let k = both (same_span a b) (same_spans as' bs) e in
    ap₂ (λ (s : Span) (l : List Span). s ∷ l) (span_same a b k.0) (spans-same as' bs k.1)

right-case : (c : Case) → right c ≡ true → Right c
right-case c e =
    let areas = map (λ k. get_or (end_of c).contents.areas k 0) (end_of c).spare in
    let told = same_numbers (replies_to c.threshold c.begins c.offers) c.replies in
    let listed = same_spans (spans (end_of c) 0) c.leaves in
    let spare = same_numbers (end_of c).spare c.free in
    let idle = same_numbers areas c.idle in
    let k = both told (listed && (spare && idle)) e in
    let m = both listed (spare && idle) k.1 in
    let n = both spare idle m.1 in
    (numbers-same (replies_to c.threshold c.begins c.offers) c.replies k.0, spans-same (spans (end_of c) 0) c.leaves m.0, numbers-same (end_of c).spare c.free n.0, numbers-same areas c.idle n.1)

abbrev all_right : List Case → Bool
all_right [] = true
all_right (c ∷ cs) = right c && all_right cs

each_right : (cs : List Case) → all_right cs ≡ true → (c : Case) → In c cs → Right c
each_right [] e c i = absurd i
each_right (d ∷ cs) e c (inl q) = subst Right (sym q) (right-case d (both (right d) (all_right cs) e).0)
each_right (d ∷ cs) e c (inr i) = each_right cs (both (right d) (all_right cs) e).1 c i

-- Every entry of the table is right.
pub tried : (c : Case) → In c table → Right c
unfolding table
tried = each_right table refl
