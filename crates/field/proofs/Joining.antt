-- The open spaces linked one after another, and column after column: their words change, and the heights in them stay.
use mathlib.Core.Path.{◌≡◌, refl, sym, ap, ap₂, ◌∙◌}
use mathlib.Core.List.{List, [], ◌∷◌, map, flatten, foldl, foldl-append}
use Prim.Native.Nat.{ℕ, zero, suc, ◌+◌, ◌<◌, max}
use native.Mathlib.Omega.{arith}
use native.Mathlib.Nat.{not-suc-le-zero, le_of_suc-le-suc}
use borrow.Author.Tests.{eqb-true, eqb-false}
use lib.ListN.{length, get_or, set, take, drop, length-map, get_or-map}
use lib.Seq.{sets, drop-cons, drop-length, get_or-set_same, get_or-set_other}
use lib.Dec.{eqb}
use Rattle.compact_span.specs.Word.{height_of}
use Rattle.field.specs.Open.{Open}
use Rattle.field.specs.Links.{for_each}
use Rattle.field.specs.Rowing.{shown_at, shown, bare, Cell, Shown}
use Rattle.field.proofs.Basics.{by-test}
use Rattle.field.proofs.Lists.{flatten-next, sets-append}
use Rattle.field.proofs.Opening.{nowhere}

-- ---- what the rows show stays while heights do

abbrev pub Heights : List ℕ → List ℕ → Type 0
Heights ws ws₀ = (x : ℕ) → height_of (get_or ws x 0) ≡ height_of (get_or ws₀ x 0)

shown-heights : (ys ws ws₀ : List ℕ) → Heights ws ws₀ → (k n : ℕ) → shown ys ws k n ≡ shown ys ws₀ k n
shown-heights ys ws ws₀ h k zero = refl
shown-heights ys ws ws₀ h k (suc n) = rw (h k, shown-heights ys ws ws₀ h (suc k) n)

pub shown-kept : {cs : List (List Open)} {ix sz ys ws ws₀ : List ℕ} → Shown cs ix sz ys ws₀ → Heights ws ws₀ → length ws ≡ length ws₀ → Shown cs ix sz ys ws
shown-kept {cs} {ix} {sz} {ys} {ws} {ws₀} S h l =
    record {
      indices = S.indices;
      counts = S.counts;
      few = S.few;
      cell =
          λ i p.
          let c = S.cell i p in
          record {
            count = c.count;
            index = c.index;
            here = shown-heights ys ws ws₀ h (get_or ix i 0) (get_or sz i 0) ∙ c.here;
            in_ys = c.in_ys;
            in_words = rw l c.in_words;
          };
      climbs = S.climbs;
    }

shown-entry : (ys ws : List ℕ) (k n l : ℕ) → l < n → get_or (shown ys ws k n) l nowhere ≡ shown_at ys ws (k + l)
shown-entry ys ws k zero l h = absurd (not-suc-le-zero h)
shown-entry ys ws k (suc n) zero h = let e : k ≡ k + 0 = omega arith in ap (shown_at ys ws) e
shown-entry ys ws k (suc n) (suc l) h =
    let e : suc k + l ≡ k + suc l = omega arith in
    shown-entry ys ws (suc k) n l (le_of_suc-le-suc h) ∙ ap (shown_at ys ws) e

-- layer l of a cell, as the rows show it
pub layer-is : {cs : List (List Open)} {ix sz ys ws : List ℕ} {i : ℕ} → Cell cs ix sz ys ws i → (l : ℕ) → l < get_or sz i 0 → shown_at ys ws (get_or ix i 0 + l) ≡ bare (get_or (get_or cs i []) l nowhere)
layer-is {cs} {ix} {sz} {ys} {ws} {i} c l h =
    sym (shown-entry ys ws (get_or ix i 0) (get_or sz i 0) l h)
    ∙ ap (λ (s : List Open). get_or s l nowhere) c.here
    ∙ get_or-map bare (get_or cs i []) l nowhere

-- ---- one column

-- Each open space of `c`, from place `k` on, gets the word that `g` gives, and `m` gives numbers of which the greatest is wanted. With `l` of them done,
-- what is left ends as the whole would.
pub record Joining (g m : Open → ℕ) (c : List Open) (k : ℕ) (ws₀ ws : List ℕ) (high₀ l high : ℕ) : Type 0 where
  pub heights : Heights ws ws₀
  pub onward : sets ws (k + l) (map g (drop l c)) ≡ sets ws₀ k (map g c)
  pub highs : foldl max high (map m (drop l c)) ≡ foldl max high₀ (map m c)

pub joining-start : (g m : Open → ℕ) (c : List Open) (k : ℕ) (ws : List ℕ) (high : ℕ) → Joining g m c k ws ws high 0 high
joining-start g m c k ws high =
    let e : k + 0 ≡ k = omega arith in
    record { heights = λ x. refl; onward = ap (λ (n : ℕ). sets ws n (map g c)) e; highs = refl }

pub joining-step : {g m : Open → ℕ} {c : List Open} {k : ℕ} {ws₀ ws : List ℕ} {high₀ l high : ℕ} → Joining g m c k ws₀ ws high₀ l high → l < length c → k + l < length ws → {word high' : ℕ} → word ≡ g (get_or c l nowhere) → height_of word ≡ height_of (get_or ws (k + l) 0) → high' ≡ max high (m (get_or c l nowhere)) → Joining g m c k ws₀ (set ws (k + l) word) high₀ (suc l) high'
joining-step {g} {m} {c} {k} {ws₀} {ws} {high₀} {l} {high} p h inside {word} {high'} ew eh em =
    let o = get_or c l nowhere in
    let split : drop l c ≡ o ∷ drop (suc l) c = drop-cons c l nowhere h in
    let n : suc (k + l) ≡ k + suc l = omega arith in
    record {
      heights =
          λ x.
          by-test (eqb x (k + l)) (λ t. rw (eqb-true x (k + l) t, get_or-set_same ws (k + l) word 0 inside) (eh ∙ p.heights (k + l)))
          (λ t. rw (get_or-set_other ws (k + l) x word 0 (eqb-false x (k + l) t)) (p.heights x));
      onward = rw (ew, ← n) (rw split at p.onward);
      highs = rw em (rw split at p.highs);
    }

pub joining-end : {g m : Open → ℕ} {c : List Open} {k : ℕ} {ws₀ ws : List ℕ} {high₀ l high : ℕ} → Joining g m c k ws₀ ws high₀ l high → l ≡ length c → (ws ≡ sets ws₀ k (map g c)) × (high ≡ foldl max high₀ (map m c))
joining-end {c = c} {l = l} p e =
    let z : drop l c ≡ [] = rw e (drop-length c) in
    (rw z at p.onward, rw z at p.highs)

-- ---- all columns

pub record Threading (g m : ℕ → Open → ℕ) (cs : List (List Open)) (ix sz ys ws₀ ws : List ℕ) (i high : ℕ) : Type 0 where
  pub onward : sets ws (length (flatten (take i cs))) (for_each g i (drop i cs)) ≡ sets ws₀ 0 (for_each g 0 cs)
  pub highs : foldl max high (for_each m i (drop i cs)) ≡ foldl max 0 (for_each m 0 cs)
  pub rows : Shown cs ix sz ys ws

pub threading-start : (g m : ℕ → Open → ℕ) {cs : List (List Open)} {ix sz ys ws : List ℕ} → Shown cs ix sz ys ws → Threading g m cs ix sz ys ws ws 0 0
unfolding flatten
threading-start g m S = record { onward = refl; highs = refl; rows = S }

-- an empty cell is stored nowhere, and so anywhere
moved : {cs : List (List Open)} {ix sz ys ws : List ℕ} {i : ℕ} → Cell cs ix sz ys ws i → (g : Open → ℕ) → sets ws (get_or ix i 0) (map g (get_or cs i [])) ≡ sets ws (length (flatten (take i cs))) (map g (get_or cs i []))
moved {cs} {ix} {sz} {ys} {ws} {i} c g = go (get_or cs i []) c.index
  where
    go : (os : List Open) → (0 < length os → get_or ix i 0 ≡ length (flatten (take i cs))) → sets ws (get_or ix i 0) (map g os) ≡ sets ws (length (flatten (take i cs))) (map g os)
    go [] e = refl
    go (o ∷ os) e = ap (λ (k : ℕ). sets ws k (map g (o ∷ os))) (e (omega arith))

pub threading-step : {g m : ℕ → Open → ℕ} {cs : List (List Open)} {ix sz ys ws₀ ws : List ℕ} {i high : ℕ} → Threading g m cs ix sz ys ws₀ ws i high → i < length cs → {ws' : List ℕ} {high' : ℕ} → ws' ≡ sets ws (get_or ix i 0) (map (g i) (get_or cs i [])) → high' ≡ foldl max high (map (m i) (get_or cs i [])) → Shown cs ix sz ys ws' → Threading g m cs ix sz ys ws₀ ws' (suc i) high'
threading-step {g} {m} {cs} {ix} {sz} {ys} {ws₀} {ws} {i} {high} p l {ws'} {high'} ew eh S =
    let c = get_or cs i [] in
    let k = length (flatten (take i cs)) in
    let split : drop i cs ≡ c ∷ drop (suc i) cs = drop-cons cs i [] l in
    let rest = for_each g (suc i) (drop (suc i) cs) in
    let e : ws' ≡ sets ws k (map (g i) c) = ew ∙ moved (p.rows.cell i l) (g i) in
    let n : length (flatten (take (suc i) cs)) ≡ k + length (map (g i) c) = flatten-next cs i l ∙ ap (λ (x : ℕ). k + x) (sym (length-map c (g i))) in
    record {
      onward =
          ap₂ (λ (a : List ℕ) (b : ℕ). sets a b rest) e n
          ∙ sym (sets-append ws k (map (g i) c) rest)
          ∙ sym (ap (λ (x : List (List Open)). sets ws k (for_each g i x)) split)
          ∙ p.onward;
      highs =
          ap (λ (b : ℕ). foldl max b (for_each m (suc i) (drop (suc i) cs))) eh
          ∙ sym (foldl-append max high (map (m i) c) (for_each m (suc i) (drop (suc i) cs)))
          ∙ sym (ap (λ (x : List (List Open)). foldl max high (for_each m i x)) split)
          ∙ p.highs;
      rows = S;
    }

pub threading-end : {g m : ℕ → Open → ℕ} {cs : List (List Open)} {ix sz ys ws₀ ws : List ℕ} {i high : ℕ} → Threading g m cs ix sz ys ws₀ ws i high → i ≡ length cs → (ws ≡ sets ws₀ 0 (for_each g 0 cs)) × (high ≡ foldl max 0 (for_each m 0 cs))
threading-end {cs = cs} {i = i} p e =
    let z : drop i cs ≡ [] = rw e (drop-length cs) in
    (rw z at p.onward, rw z at p.highs)
