-- What is read from a complete compact result, entry by entry: a cell's count, a floor's place in the rows, its y, area and height, and its links.
use mathlib.Core.Path.{◌≡◌, refl, ap, ap₂, ◌∙◌}
use mathlib.Core.Logic.{◌≢◌}
use mathlib.Core.Bool.{Bool, true}
use mathlib.Core.List.{List, [], ◌∷◌, ◌++◌, map, flatten}
use Prim.Native.Nat.{ℕ, zero, suc, ◌+◌, ◌<◌, ◌≤◌}
use native.Mathlib.Omega.{arith}
use native.Mathlib.Nat.{not-suc-le-zero, le_of_suc-le-suc}
use lib.ListN.{length, get_or, take, length-map, get_or-map, get_or-append}
use lib.Seq.{get_or-append-add}
use Rattle.compact_span.specs.Word.{links, height_of, empty_mark}
use Rattle.compact_span.specs.Span.{link_at}
use Rattle.compact_span.proofs.Base64.{links-of-word}
use Rattle.field.specs.declared.Span.{Span}
use Rattle.field.specs.Slots.{none}
use Rattle.field.specs.Beside.{beside}
use Rattle.field.specs.Open.{Open, opens, cells, indices}
use Rattle.field.specs.Links.{lowest, link, around, word_of, for_each, words}
use Rattle.field.specs.Compact.{Result, Room, complete}
use Rattle.field.specs.Linked.{row_of, link_from}
use Rattle.field.proofs.Basics.{by-test}
use Rattle.field.proofs.Lists.{flatten-cons}
use Rattle.field.proofs.Opening.{earlier, cell_at, index_at, indices-length, nowhere}
use Rattle.field.proofs.ReadingBack.{cell-inside, row_at, start-at}
use Rattle.field.proofs.Sides.{links-small, word-height, for_each-length}

-- ---- the lowest layer that passes

module _ (pass : Open → Bool) where
  -- layer `j` of `ns`
  abbrev at : List Open → ℕ → Open
  at ns j = get_or ns j nowhere

  -- of `m` layers, counted from `l` on, one was found that passes
  pub record Found (l m : ℕ) (ns : List Open) : Type 0 where
    pub layer : ℕ
    pub low : layer < m
    pub inside : layer < length ns
    pub is : lowest pass l (take m ns) ≡ l + layer
    pub passes : pass (at ns layer) ≡ true

  lowest-found : (l m : ℕ) (ns : List Open) → lowest pass l (take m ns) ≢ empty_mark → Found l m ns
  lowest-found l zero ns n = absurd (n refl)
  lowest-found l (suc m) [] n = absurd (n refl)
  lowest-found l (suc m) (o ∷ ns) n =
      by-test (pass o)
      (λ t. record { layer = 0; low = omega arith; inside = omega arith; is = rw t (omega arith); passes = t })
      (λ t.
      let r = lowest-found (suc l) m ns (rw t at n) in
      record { layer = suc r.layer; low = omega (arith, r.low); inside = omega (arith, r.inside); is = rw t (omega (arith, r.is)); passes = r.passes })

  lowest-least : (l m : ℕ) (ns : List Open) (j : ℕ) → j < m → j < length ns → pass (at ns j) ≡ true → lowest pass l (take m ns) ≤ l + j
  lowest-least l zero ns j h k e = absurd (not-suc-le-zero h)
  lowest-least l (suc m) [] j h k e = absurd (not-suc-le-zero k)
  lowest-least l (suc m) (o ∷ ns) zero h k e = rw e (omega arith)
  lowest-least l (suc m) (o ∷ ns) (suc j) h k e =
      by-test (pass o) (λ t. rw t (omega arith))
      (λ t. rw t (omega (arith, lowest-least (suc l) m ns j (le_of_suc-le-suc h) (le_of_suc-le-suc k) e)))

  -- a link that is not empty is a layer that passes
  pub link-found : (ns : List Open) → link pass ns ≢ empty_mark → Found 0 62 ns
  link-found ns n = lowest-found 0 62 ns n

  -- and no layer that passes is lower
  pub link-least : (ns : List Open) (j : ℕ) → j ≤ 61 → j < length ns → pass (at ns j) ≡ true → link pass ns ≤ j
  link-least ns j h k e = omega (arith, lowest-least 0 62 ns j (omega arith) k e)

-- ---- the entries of the rows

-- an entry of a list that was mapped
pub mapped : {A B : Type 0} (f : A → B) (l : List A) (a : A) (b : B) (i : ℕ) → i < length l → get_or (map f l) i b ≡ f (get_or l i a)
mapped f [] a b i h = absurd (not-suc-le-zero h)
mapped f (x ∷ l) a b zero h = refl
mapped f (x ∷ l) a b (suc i) h = mapped f l a b i (le_of_suc-le-suc h)

-- what stands for open space `k` of cell `i`
pub for_each-at : (g : ℕ → Open → ℕ) (m : ℕ) (cs : List (List Open)) (i k : ℕ) → i < length cs → k < length (get_or cs i []) → get_or (for_each g m cs) (length (flatten (take i cs)) + k) 0 ≡ g (m + i) (get_or (get_or cs i []) k nowhere)
unfolding flatten
for_each-at g m [] i k h l = absurd (not-suc-le-zero h)
for_each-at g m (c ∷ cs) zero k h l =
    let e : 0 + k ≡ k = omega arith in
    let n : m ≡ m + 0 = omega arith in
    ap (λ (x : ℕ). get_or (map (g m) c ++ for_each g (suc m) cs) x 0) e
    ∙ get_or-append (map (g m) c) (for_each g (suc m) cs) 0 k (omega (arith, length-map c (g m)))
    ∙ mapped (g m) c nowhere 0 k l
    ∙ ap (λ (x : ℕ). g x (get_or c k nowhere)) n
for_each-at g m (c ∷ cs) (suc i) k h l =
    let e : length (flatten (take (suc i) (c ∷ cs))) + k ≡ length (map (g m) c) + (length (flatten (take i cs)) + k) = omega (arith, flatten-cons c (take i cs), length-map c (g m)) in
    let n : suc m + i ≡ m + suc i = omega arith in
    ap (λ (x : ℕ). get_or (map (g m) c ++ for_each g (suc m) cs) x 0) e
    ∙ get_or-append-add (map (g m) c) (for_each g (suc m) cs) (length (flatten (take i cs)) + k) 0
    ∙ for_each-at g (suc m) cs i k (le_of_suc-le-suc h) l
    ∙ ap (λ (x : ℕ). g x (get_or (get_or cs i []) k nowhere)) n

module _ (pass : Open → Open → Bool) (w h : ℕ) (columns : List (List Span)) (t : Result) (li : length columns ≤ length t.indices) (lc : length columns ≤ length t.counts) (r : Room (length (flatten (cells columns))) t.rows) where
  abbrev cs : List (List Open)
  cs = cells columns

  abbrev res : Result
  res = complete pass w h columns t

  -- a cell's count is the number of its open spaces
  pub count-read : (i : ℕ) → i < length columns → get_or res.counts i 0 ≡ length (opens (get_or columns i []))
  count-read i p =
      start-at t.counts (map length cs) i (omega (arith, length-map cs length, length-map columns opens)) (omega (arith, length-map cs length, length-map columns opens))
      ∙ get_or-map length cs i []
      ∙ ap length (cell_at columns i)

  module _ (i k : ℕ) (p : i < length columns) (q : k < length (opens (get_or columns i []))) where
    in_cells : i < length cs
    in_cells = omega (arith, length-map columns opens)

    in_cell : k < length (get_or cs i [])
    in_cell = rw (cell_at columns i) q

    -- an open space stands after all those of the columns before it
    row_is : row_of res i k ≡ earlier columns i + k
    row_is =
        ap (λ (n : ℕ). n + k)
        (start-at t.indices (indices 0 columns) i (omega (arith, indices-length 0 columns)) (omega (arith, indices-length 0 columns))
        ∙ index_at 0 columns i p (omega arith)
        ∙ (let z : 0 + earlier columns i ≡ earlier columns i = omega arith in z))

    -- its y and its area
    pub y-read : get_or res.rows.ys (row_of res i k) 0 ≡ (get_or (opens (get_or columns i [])) k nowhere).y
    y-read =
        ap (λ (n : ℕ). get_or res.rows.ys n 0) row_is
        ∙ row_at (λ o. o.y) t.rows.ys cs r.ys i k in_cells in_cell
        ∙ ap (λ (c : List Open). (get_or c k nowhere).y) (cell_at columns i)

    pub area-read : get_or res.rows.areas (row_of res i k) 0 ≡ (get_or (opens (get_or columns i [])) k nowhere).area
    area-read =
        ap (λ (n : ℕ). get_or res.rows.areas n 0) row_is
        ∙ row_at (λ o. o.area) t.rows.areas cs r.areas i k in_cells in_cell
        ∙ ap (λ (c : List Open). (get_or c k nowhere).area) (cell_at columns i)

    -- its word
    word_read : get_or res.rows.words (row_of res i k) 0 ≡ word_of pass (around w h cs i) (get_or (opens (get_or columns i [])) k nowhere)
    word_read =
        ap (λ (n : ℕ). get_or res.rows.words n 0) row_is
        ∙ start-at t.rows.words (words pass w h cs) (earlier columns i + k) (omega (arith, for_each-length (λ i. word_of pass (around w h cs i)) 0 cs, cell-inside cs i in_cells, in_cell)) (omega (arith, for_each-length (λ i. word_of pass (around w h cs i)) 0 cs, r.words))
        ∙ for_each-at (λ i. word_of pass (around w h cs i)) 0 cs i k in_cells in_cell
        ∙ ap₂ (λ (n : ℕ) (c : List Open). word_of pass (around w h cs n) (get_or c k nowhere)) (let z : 0 + i ≡ i = omega arith in z) (cell_at columns i)

    pub height-read : height_of (get_or res.rows.words (row_of res i k) 0) ≡ (get_or (opens (get_or columns i [])) k nowhere).height
    height-read = ap height_of word_read ∙ word-height pass (around w h cs i) (get_or (opens (get_or columns i [])) k nowhere) refl

    -- its link in a direction: reading undoes packing
    pub link-read : (d : ℕ) → d < 4 → link_from res i k d ≡ link (pass (get_or (opens (get_or columns i [])) k nowhere)) (opens (get_or columns (get_or (beside w h i) d none) []))
    unfolding link_at
    link-read d l =
        let o = get_or (opens (get_or columns i [])) k nowhere in
        ap (λ (n : ℕ). get_or (links n) d 0) word_read
        ∙ ap (λ (ls : List ℕ). get_or ls d 0) (links-of-word o.height (map (link (pass o)) (around w h cs i)) refl (links-small (pass o) (around w h cs i)))
        ∙ mapped (link (pass o)) (around w h cs i) [] 0 d l
        ∙ ap (link (pass o)) (mapped (λ k. get_or cs k []) (beside w h i) none [] d l ∙ cell_at columns (get_or (beside w h i) d none))
