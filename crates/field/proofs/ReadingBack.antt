-- What was stored can be read again: each cell's open spaces stand from its index on.
use mathlib.Core.Path.{◌≡◌, refl, sym, ap, ap₂, ◌∙◌}
use mathlib.Core.List.{List, [], ◌∷◌, map, flatten}
use Prim.Native.Nat.{ℕ, zero, suc, ◌+◌, ◌<◌, ◌≤◌}
use native.Mathlib.Omega.{arith}
use native.Mathlib.Nat.{not-suc-le-zero, le_of_suc-le-suc}
use lib.ListN.{length, get_or, take, length-map, get_or-map}
use lib.Seq.{sets, length-sets}
use Rattle.compact_span.specs.Word.{height_of, no_links}
use Rattle.compact_span.proofs.Base64.{Digits, height-of-word}
use Rattle.field.specs.declared.Span.{Span}
use Rattle.field.specs.Open.{Open, space, opens, cells, indices}
use Rattle.field.specs.Compact.{Rows, Result, Room}
use Rattle.field.specs.Spans.{range, Ascends}
use Rattle.field.specs.Rowing.{bare_word, Filled, shown_at, shown, bare, Cell, Climbs, Shown}
use Rattle.field.proofs.Climbing.{opens-climb}
use Rattle.field.proofs.Lists.{flatten-next, flatten-split, flatten-at, sets-at}
use Rattle.field.proofs.Opening.{nowhere, earlier, cell_at, index_at, index-under, indices-length}

no-links-small : Digits no_links
no-links-small zero = omega arith
no-links-small (suc zero) = omega arith
no-links-small (suc (suc zero)) = omega arith
no-links-small (suc (suc (suc zero))) = omega arith
no-links-small (suc (suc (suc (suc i)))) = omega arith

pub bare-height : (o : Open) → height_of (bare_word o) ≡ o.height
bare-height o = height-of-word o.height no_links refl no-links-small

-- open spaces that stand one after another
shown-ext : (ys ws : List ℕ) (k : ℕ) (os : List Open) → ((j : ℕ) → j < length os → shown_at ys ws (k + j) ≡ bare (get_or os j nowhere)) → shown ys ws k (length os) ≡ map bare os
shown-ext ys ws k [] h = refl
shown-ext ys ws k (o ∷ os) h =
    let e : k ≡ k + 0 = omega arith in
    ap₂ (λ (a : Open) (l : List Open). a ∷ l) (ap (shown_at ys ws) e ∙ h 0 (omega arith))
    (shown-ext ys ws (suc k) os (λ j p. let n : suc k + j ≡ k + suc j = omega arith in ap (shown_at ys ws) n ∙ h (suc j) (omega arith)))

get_d-map-in : (g : Open → ℕ) (os : List Open) (n : ℕ) → n < length os → get_or (map g os) n 0 ≡ g (get_or os n nowhere)
get_d-map-in g [] n h = absurd (not-suc-le-zero h)
get_d-map-in g (o ∷ os) zero h = refl
get_d-map-in g (o ∷ os) (suc n) h = get_d-map-in g os n (le_of_suc-le-suc h)

-- cell `i` ends before the open spaces do
pub cell-inside : (cs : List (List Open)) (i : ℕ) → i < length cs → length (flatten (take i cs)) + length (get_or cs i []) ≤ length (flatten cs)
cell-inside cs i p = omega (arith, flatten-next cs i p, flatten-split cs (suc i))

-- an entry of a row
pub row_at : (g : Open → ℕ) (l : List ℕ) (cs : List (List Open)) → length (flatten cs) ≤ length l → (i j : ℕ) → i < length cs → j < length (get_or cs i []) → get_or (sets l 0 (map g (flatten cs))) (length (flatten (take i cs)) + j) 0 ≡ g (get_or (get_or cs i []) j nowhere)
row_at g l cs h i j p m =
    let x = length (flatten (take i cs)) + j in
    let n : 0 + x ≡ x = omega arith in
    let k : x < length (flatten cs) = omega (arith, cell-inside cs i p) in
    ap (λ (y : ℕ). get_or (sets l 0 (map g (flatten cs))) y 0) (sym n)
    ∙ sets-at 0 l 0 (map g (flatten cs)) x (omega (arith, length-map (flatten cs) g)) (omega (arith, length-map (flatten cs) g))
    ∙ get_d-map-in g (flatten cs) x k
    ∙ ap g (flatten-at nowhere cs i j p m)

-- an entry of a list that starts with `vs`
pub start-at : (l vs : List ℕ) (i : ℕ) → i < length vs → length vs ≤ length l → get_or (sets l 0 vs) i 0 ≡ get_or vs i 0
start-at l vs i h r =
    let n : 0 + i ≡ i = omega arith in
    ap (λ (y : ℕ). get_or (sets l 0 vs) y 0) (sym n) ∙ sets-at 0 l 0 vs i h (omega arith)

module _ {columns : List (List Span)} {t₀ t : Result} (F : Filled columns t₀ t) (r : Room (length (flatten (cells columns))) t₀.rows) (li : length (cells columns) ≤ length t₀.indices) (ls : length (cells columns) ≤ length t₀.counts) where
  pub stored-index : (i : ℕ) → i < length (cells columns) → get_or t.indices i 0 ≡ get_or (indices 0 columns) i 0
  stored-index i p =
      ap (λ (l : List ℕ). get_or l i 0) F.indices
      ∙ start-at t₀.indices (indices 0 columns) i (omega (arith, indices-length 0 columns, length-map columns opens)) (omega (arith, indices-length 0 columns, length-map columns opens))

  pub stored-count : (i : ℕ) → i < length (cells columns) → get_or t.counts i 0 ≡ length (get_or (cells columns) i [])
  stored-count i p =
      ap (λ (l : List ℕ). get_or l i 0) F.counts
      ∙ start-at t₀.counts (map length (cells columns)) i (omega (arith, length-map (cells columns) length)) (omega (arith, length-map (cells columns) length))
      ∙ get_or-map length (cells columns) i []

  module _ (i : ℕ) (p : i < length (cells columns)) where
    in-columns : i < length columns
    in-columns = omega (arith, length-map columns opens)

    index_is : 0 < length (get_or (cells columns) i []) → get_or t.indices i 0 ≡ earlier columns i
    index_is h = stored-index i p ∙ index_at 0 columns i in-columns (omega (arith, ap length (cell_at columns i))) ∙ (let z : 0 + earlier columns i ≡ earlier columns i = omega arith in z)

    index-low : get_or t.indices i 0 + get_or t.counts i 0 ≤ length (flatten (cells columns))
    index-low =
        omega (arith, stored-index i p, index-under 0 columns i in-columns, stored-count i p, cell-inside (cells columns) i p)

    ys-are : t.rows.ys ≡ sets t₀.rows.ys 0 (map (λ o. o.y) (flatten (cells columns)))
    ys-are = ap (λ (u : Rows). u.ys) F.rows

    words_are : t.rows.words ≡ sets t₀.rows.words 0 (map bare_word (flatten (cells columns)))
    words_are = ap (λ (u : Rows). u.words) F.rows

    shows : (j : ℕ) → j < length (get_or (cells columns) i []) → shown_at t.rows.ys t.rows.words (get_or t.indices i 0 + j) ≡ bare (get_or (get_or (cells columns) i []) j nowhere)
    shows j m =
        let o = get_or (get_or (cells columns) i []) j nowhere in
        let n : get_or t.indices i 0 + j ≡ earlier columns i + j = ap (λ (x : ℕ). x + j) (index_is (omega arith)) in
        let a : get_or t.rows.ys (get_or t.indices i 0 + j) 0 ≡ o.y = ap₂ (λ (l : List ℕ) (x : ℕ). get_or l x 0) ys-are n ∙ row_at (λ o. o.y) t₀.rows.ys (cells columns) r.ys i j p m in
        let b : get_or t.rows.words (get_or t.indices i 0 + j) 0 ≡ bare_word o = ap₂ (λ (l : List ℕ) (x : ℕ). get_or l x 0) words_are n ∙ row_at bare_word t₀.rows.words (cells columns) r.words i j p m in
        let c : height_of (get_or t.rows.words (get_or t.indices i 0 + j) 0) ≡ o.height = ap height_of b ∙ bare-height o in
        λ d. space (a d) (c d) 0

    pub cell-of : Cell (cells columns) t.indices t.counts t.rows.ys t.rows.words i
    cell-of =
        record {
          count = stored-count i p;
          index = index_is;
          here = ap (shown t.rows.ys t.rows.words (get_or t.indices i 0)) (stored-count i p) ∙ shown-ext t.rows.ys t.rows.words (get_or t.indices i 0) (get_or (cells columns) i []) shows;
          in_ys = omega (arith, index-low, r.ys, ap length ys-are, length-sets t₀.rows.ys 0 (map (λ o. o.y) (flatten (cells columns))));
          in_words = omega (arith, index-low, r.words, ap length words_are, length-sets t₀.rows.words 0 (map bare_word (flatten (cells columns))));
        }

    -- a column that ascends climbs
    climbs-of : Ascends 0 (map range (get_or columns i [])) → Climbs t.rows.ys (get_or t.indices i 0) (get_or t.counts i 0)
    climbs-of up j k h inside =
        let m : k < length (get_or (cells columns) i []) = omega (arith, stored-count i p) in
        let y : (l : ℕ) → l < length (get_or (cells columns) i []) → get_or t.rows.ys (get_or t.indices i 0 + l) 0 ≡ (get_or (opens (get_or columns i [])) l nowhere).y =
        λ l q. ap (λ (o : Open). o.y) (shows l q) ∙ ap (λ (os : List Open). (get_or os l nowhere).y) (cell_at columns i) in
        omega (arith, y j (omega arith), y k m, opens-climb 0 (get_or columns i []) up j k h (omega (arith, ap length (cell_at columns i))))

  pub shown_of : length (cells columns) ≤ 1048576 → ((i : ℕ) → i < length columns → Ascends 0 (map range (get_or columns i []))) → Shown (cells columns) t.indices t.counts t.rows.ys t.rows.words
  shown_of few up =
      record {
        indices = rw (F.indices, length-sets t₀.indices 0 (indices 0 columns)) li;
        counts = rw (F.counts, length-sets t₀.counts 0 (map length (cells columns))) ls;
        few = few;
        cell = cell-of;
        climbs = λ i p. climbs-of i p (up i (in-columns i p));
      }
