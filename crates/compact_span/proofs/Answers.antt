-- Two different answers never say the same, so what a call says fixes its answer. Then what a caller may conclude:
-- which answer an accepted call gives, and that reading a link undoes setting it.
use Rattle.std.proofs.Common.{◌≡◌, ℕ, ◌≤◌, ◌<◌, Bool, true, false, Option, None, Some, Result, Ok, Err, eqb, refl, sym, ap, ap₂, arith, ltb-false, eqb-true, le-ltb, ne_eqb}
use Rattle.replies.specs.Said.{Said}
use Rattle.compact_span.specs.declared.CompactSpan.{CompactSpan}
use Rattle.compact_span.specs.declared.NoLink.{NoLink}
use Rattle.compact_span.specs.Word.{empty_mark}
use Rattle.compact_span.specs.Span.{span_of, link_at, with_link}
use Rattle.compact_span.specs.Replies.{number_of, link_of, layer_of, too_high, span_said, link_said, said_of_linked, said_of_con, set_con_says, con_says}
use Rattle.compact_span.proofs.Links.{read_same, same-stays}

-- acceptance is not refusal
never : {o o' : Said} → o ≡ o' → o.number ≡ 0 → o'.number ≡ 13 → ⊥
never e a b = let n = ap (λ (o : Said). o.number) e in omega (arith, n)

span-one : (s t : CompactSpan) → span_said s ≡ span_said t → s ≡ t
span-one s t e =
    let vs = ap (λ (o : Said). o.values) e in
    let y-is : s.y ≡ t.y = cc in
    let data_is : s.«data» ≡ t.«data» = cc in
    ap₂ span_of y-is data_is

layer-one : (l m : Option ℕ) → layer_of l ≡ layer_of m → l ≡ m
layer-one None None e = refl
layer-one None (Some m) e = cc
layer-one (Some l) None e = cc
layer-one (Some l) (Some m) e = cc

-- what is said has one answer
pub linked-one : (a b : Result CompactSpan NoLink) → said_of_linked a ≡ said_of_linked b → a ≡ b
linked-one (Ok s) (Ok t) e = ap Ok (span-one s t e)
linked-one (Ok s) (Err r) e = absurd (never e refl refl)
linked-one (Err q) (Ok t) e = absurd (never (sym e) refl refl)
linked-one (Err q) (Err r) e = refl

pub con-one : (a b : Result (Option ℕ) NoLink) → said_of_con a ≡ said_of_con b → a ≡ b
con-one (Ok l) (Ok m) e = ap Ok (layer-one l m (ap (λ (o : Said). o.values) e))
con-one (Ok l) (Err r) e = absurd (never e refl refl)
con-one (Err q) (Ok m) e = absurd (never (sym e) refl refl)
con-one (Err q) (Err r) e = refl

-- the answers of accepted calls
pub set-con-answers : (s : CompactSpan) (d : ℕ) (l : Option ℕ) (r : Result CompactSpan NoLink) → d ≤ 3 → too_high l ≡ false
    → said_of_linked r ≡ set_con_says s d l → r ≡ Ok (with_link s d (number_of l))
set-con-answers s d l r hd hl e = linked-one r (Ok (with_link s d (number_of l))) (simp (le-ltb 3 d hd, hl) at e)

pub con-answers : (s : CompactSpan) (d : ℕ) (r : Result (Option ℕ) NoLink) → d ≤ 3 → said_of_con r ≡ con_says s d → r ≡ Ok (link_of (link_at s d))
con-answers s d r hd e = con-one r (Ok (link_of (link_at s d))) (simp (le-ltb 3 d hd) at e)

-- a link that may be set is below 64, and comes back from its number
number_small : (l : Option ℕ) → too_high l ≡ false → number_of l < 64
number_small None h = omega arith
number_small (Some l) h = omega (arith, ltb-false 62 l h)

link-of-number : (l : Option ℕ) → too_high l ≡ false → link_of (number_of l) ≡ l
link-of-number None h = refl
link-of-number (Some l) h = let no : l ≡ empty_mark → ⊥ = λ q. omega (arith, ltb-false 62 l h, q) in simp (ne_eqb l empty_mark no)

pub number-of-link : (n : ℕ) → number_of (link_of n) ≡ n
number-of-link n = go (eqb n empty_mark) refl
  where
    go : (b : Bool) → eqb n empty_mark ≡ b → number_of (link_of n) ≡ n
    go true e = rw e (sym (eqb-true n empty_mark e))
    go false e = rw e

-- reading a link undoes setting it
pub con-of-set : (s : CompactSpan) (d : ℕ) (l : Option ℕ) → d ≤ 3 → too_high l ≡ false → con_says (with_link s d (number_of l)) d ≡ link_said l
con-of-set s d l hd hl =
    let e : link_at (with_link s d (number_of l)) d ≡ number_of l = read_same s d (number_of l) (number_small l hl) (omega arith) in
    simp (le-ltb 3 d hd, e, link-of-number l hl)

-- setting the link that was read changes nothing
pub set-of-con : (s : CompactSpan) (d : ℕ) → with_link s d (number_of (link_of (link_at s d))) ≡ s
set-of-con s d = rw number-of-link (same-stays s d)
