-- The cells beside a column as the rows show them, and what an open space's word is made of.
use mathlib.Core.Path.{◌≡◌, refl, sym, ap, ap₂, ◌∙◌}
use mathlib.Core.Logic.{◌≢◌}
use mathlib.Core.Bool.{Bool, cond}
use mathlib.Core.List.{List, [], ◌∷◌, map, flatten, foldl}
use Prim.Native.Nat.{ℕ, zero, suc, ◌+◌, ◌*◌, ◌/◌, ◌%◌, ◌<◌, ◌≤◌, max}
use native.Mathlib.Omega.{arith}
use native.Mathlib.Decide.{ℕ_discrete}
use borrow.Author.Tests.{eq-eqb, ne_eqb}
use lib.ListN.{length, get_or, take, get_or-eq_default, length-append, length-map}
use lib.Seq.{sets}
use lib.Dec.{eqb}
use Rattle.compact_span.specs.Word.{word, height_of}
use Rattle.compact_span.proofs.Base64.{Digits, height-of-word}
use Rattle.field.specs.declared.Span.{Span}
use Rattle.field.specs.Slots.{none}
use Rattle.field.specs.Beside.{beside}
use Rattle.field.specs.Open.{Open, cells}
use Rattle.field.specs.Links.{passes, lowest, link, missed, around, word_of, missed_of, for_each, words}
use Rattle.field.specs.Compact.{Rows, rows, Result, result_of, complete}
use Rattle.field.specs.Rowing.{bare_word, Filled, shown, bare, Climbs, Shown}
use Rattle.field.proofs.Basics.{by-test, by-dec}
use Rattle.field.proofs.Lists.{flatten-cons, sets_over}
use Rattle.field.proofs.Beside.{place, beside-below}
use Rattle.field.proofs.Layers.{link-bare, missed-bare}

-- ---- one cell beside

-- the rows show the cell with number `k` from place `first` on, `count` open spaces
pub record Beside (cs : List (List Open)) (ys ws : List ℕ) (k first count : ℕ) : Type 0 where
  pub in_ys : first + count ≤ length ys
  pub in_words : first + count ≤ length ws
  pub here : shown ys ws first count ≡ map bare (get_or cs k [])
  pub climbs : Climbs ys first count

-- so they do for the cell beside, and for none off the grid
pub beside-shown : {cs : List (List Open)} {ix sz ys ws : List ℕ} → Shown cs ix sz ys ws → {k first count : ℕ} → first ≡ cond (eqb k none) 0 (get_or ix k 0) → count ≡ cond (eqb k none) 0 (get_or sz k 0) → (k ≢ none → k < length cs) → Beside cs ys ws k first count
beside-shown {cs} {ix} {sz} {ys} {ws} S {k} {first} {count} ef ec inside =
    by-dec (ℕ_discrete k none)
    (λ e.
    let a : first ≡ 0 = ef ∙ rw (eq-eqb k none e) in
    let b : count ≡ 0 = ec ∙ rw (eq-eqb k none e) in
    record {
      in_ys = omega arith;
      in_words = omega arith;
      here = ap₂ (shown ys ws) a b ∙ rw (e, get_or-eq_default cs [] {n = none} (omega (arith, S.few)));
      climbs = λ i j p q. absurd (omega arith);
    })
    (λ n.
    let a : first ≡ get_or ix k 0 = ef ∙ rw (ne_eqb k none n) in
    let b : count ≡ get_or sz k 0 = ec ∙ rw (ne_eqb k none n) in
    let c = S.cell k (inside n) in
    record {
      in_ys = omega (arith, c.in_ys);
      in_words = omega (arith, c.in_words);
      here = ap₂ (shown ys ws) a b ∙ c.here;
      climbs = rw (a, b) (S.climbs k (inside n));
    })

-- no link leads off the grid: a number in `beside` that is not `none` is a column's
pub beside-inside : (w h i d : ℕ) → i < w * h → get_or (beside w h i) d none ≢ none → get_or (beside w h i) d none < w * h
beside-inside w h i d l n = let p = place i w h l in beside-below w h (i % w) (i / w) d p.0 p.1 n

-- ---- an open space's word

-- neither the word nor the missed layers depend on areas
links-bare : (tall climb : ℕ) (o : Open) (sides : List (List Open)) → map (link (passes tall climb o)) (map (map bare) sides) ≡ map (link (passes tall climb o)) sides
links-bare tall climb o [] = refl
links-bare tall climb o (ns ∷ sides) =
    ap₂ (λ (a : ℕ) (l : List ℕ). a ∷ l) (link-bare tall climb o ns) (links-bare tall climb o sides)

all-missed-bare : (tall climb : ℕ) (o : Open) (sides : List (List Open)) → map (missed (passes tall climb o)) (map (map bare) sides) ≡ map (missed (passes tall climb o)) sides
all-missed-bare tall climb o [] = refl
all-missed-bare tall climb o (ns ∷ sides) =
    ap₂ (λ (a : ℕ) (l : List ℕ). a ∷ l) (missed-bare tall climb o ns) (all-missed-bare tall climb o sides)

pub word-bare : (tall climb : ℕ) (sides : List (List Open)) (o : Open) → word_of (passes tall climb) (map (map bare) sides) (bare o) ≡ word_of (passes tall climb) sides o
word-bare tall climb sides o = ap (word o.height) (links-bare tall climb o sides)

pub missed-of-bare : (tall climb : ℕ) (sides : List (List Open)) (o : Open) → missed_of (passes tall climb) (map (map bare) sides) (bare o) ≡ missed_of (passes tall climb) sides o
missed-of-bare tall climb sides o = ap (foldl max 0) (all-missed-bare tall climb o sides)

lowest-small : (pass : Open → Bool) (l m : ℕ) (ns : List Open) → l + m ≤ 62 → lowest pass l (take m ns) < 64
lowest-small pass l zero ns h = omega arith
lowest-small pass l (suc m) [] h = omega arith
lowest-small pass l (suc m) (n ∷ ns) h =
    by-test (pass n) (λ e. rw e (omega arith)) (λ e. rw e (lowest-small pass (suc l) m ns (omega arith)))

-- a link fits six bits
pub link-small : (pass : Open → Bool) (ns : List Open) → link pass ns < 64
link-small pass ns = lowest-small pass 0 62 ns (omega arith)

pub links-small : (pass : Open → Bool) (sides : List (List Open)) → Digits (map (link pass) sides)
links-small pass [] i = omega arith
links-small pass (ns ∷ sides) zero = link-small pass ns
links-small pass (ns ∷ sides) (suc i) = links-small pass sides i

-- so the word keeps the height
pub word-height : (pass : Open → Open → Bool) (sides : List (List Open)) (o : Open) → length sides ≡ 4 → height_of (word_of pass sides o) ≡ o.height
word-height pass sides o l =
    height-of-word o.height (map (link (pass o)) sides) (length-map sides (link (pass o)) ∙ l) (links-small (pass o) sides)

-- ---- stored, then linked

pub for_each-length : (g : ℕ → Open → ℕ) (i : ℕ) (cs : List (List Open)) → length (for_each g i cs) ≡ length (flatten cs)
unfolding flatten
for_each-length g i [] = refl
for_each-length g i (c ∷ cs) =
    omega (arith, length-append (map (g i) c) (for_each g (suc i) cs), flatten-cons c cs, length-map c (g i), for_each-length g (suc i) cs)

pub completed : (pass : Open → Open → Bool) (w h : ℕ) (columns : List (List Span)) {t₀ t : Result} {ws : List ℕ} → Filled columns t₀ t → ws ≡ sets t.rows.words 0 (words pass w h (cells columns)) → result_of t.indices t.counts (rows t.rows.ys ws t.rows.areas) ≡ complete pass w h columns t₀
completed pass w h columns {t₀} {t} {ws} F e =
    let cs = cells columns in
    let x : t.rows.words ≡ sets t₀.rows.words 0 (map bare_word (flatten cs)) = ap (λ (u : Rows). u.words) F.rows in
    let v : ws ≡ sets t₀.rows.words 0 (words pass w h cs) =
    e ∙ ap (λ (l : List ℕ). sets l 0 (words pass w h cs)) x
    ∙ sets_over t₀.rows.words 0 (map bare_word (flatten cs)) (words pass w h cs) (length-map (flatten cs) bare_word ∙ sym (for_each-length (λ i. word_of pass (around w h cs i)) 0 cs))
    in λ i. result_of (F.indices i) (F.counts i) (rows (F.rows i).ys (v i) (F.rows i).areas)
