-- The largest layer that a link misses: it is one from 63 on that passes where the link is empty, and no such layer is above it.
use mathlib.Core.Path.{◌≡◌, refl, sym, ap, ◌∙◌}
use mathlib.Core.Logic.{◌≢◌, ◌⊎◌, inl, inr, ⊎_elim}
use mathlib.Core.Bool.{Bool, true}
use mathlib.Core.List.{List, [], ◌∷◌, map, flatten}
use Prim.Native.Nat.{ℕ, zero, suc, ◌+◌, ◌-◌, ◌<◌, ◌≤◌}
use native.Mathlib.Omega.{arith}
use native.Mathlib.Nat.{not-suc-le-zero, le_of_suc-le-suc}
use native.Mathlib.Decide.{dec_lt}
use borrow.Author.Tests.{eqb-true, eq-eqb}
use lib.ListN.{length, get_or, take, drop, length-drop, length-append, length-map}
use lib.Seq.{get_or-drop}
use lib.Dec.{eqb}
use Rattle.compact_span.specs.Word.{empty_mark}
use Rattle.field.specs.Open.{Open}
use Rattle.field.specs.Links.{largest, link, missed, for_each}
use Rattle.field.proofs.Basics.{by-test, by-dec}
use Rattle.field.proofs.Lists.{flatten-cons}
use Rattle.field.proofs.Opening.{nowhere}

module _ (pass : Open → Bool) where
  abbrev at : List Open → ℕ → Open
  at ns j = get_or ns j nowhere

  -- ---- the largest layer, counted from `l` on

  largest-over : (best l : ℕ) (ns : List Open) → best ≤ l → best ≤ largest pass best l ns
  largest-over best l [] h = omega arith
  largest-over best l (o ∷ ns) h =
      by-test (pass o) (λ t. rw t (omega (arith, largest-over l (suc l) ns (omega arith)))) (λ t. rw t (largest-over best (suc l) ns (omega arith)))

  largest-reaches : (best l : ℕ) (ns : List Open) (j : ℕ) → best ≤ l → j < length ns → pass (at ns j) ≡ true → l + j ≤ largest pass best l ns
  largest-reaches best l [] j h k e = absurd (not-suc-le-zero k)
  largest-reaches best l (o ∷ ns) zero h k e = rw e (omega (arith, largest-over l (suc l) ns (omega arith)))
  largest-reaches best l (o ∷ ns) (suc j) h k e =
      by-test (pass o) (λ t. rw t (omega (arith, largest-reaches l (suc l) ns j (omega arith) (le_of_suc-le-suc k) e)))
      (λ t. rw t (omega (arith, largest-reaches best (suc l) ns j (omega arith) (le_of_suc-le-suc k) e)))

  -- layer `j` of these passes, and is the largest
  abbrev Taken : ℕ → ℕ → List Open → Type 0
  Taken best l ns = (j : ℕ) × (j < length ns) × (pass (at ns j) ≡ true) × (largest pass best l ns ≡ l + j)

  largest-taken : (best l : ℕ) (ns : List Open) → (largest pass best l ns ≡ best) ⊎ Taken best l ns
  largest-taken best l [] = inl refl
  largest-taken best l (o ∷ ns) =
      by-test (pass o)
      (λ t.
      ⊎_elim (λ e. inr (0, omega arith, t, rw t (omega (arith, e))))
      (λ r. inr (suc r.0, omega (arith, r.1), r.2, rw t (omega (arith, r.3))))
      (largest-taken l (suc l) ns))
      (λ t.
      ⊎_elim (λ e. inl (rw t e))
      (λ r. inr (suc r.0, omega (arith, r.1), r.2, rw t (omega (arith, r.3))))
      (largest-taken best (suc l) ns))

  -- ---- what a link misses

  pub record Misses (ns : List Open) : Type 0 where
    pub layer : ℕ
    pub high : 63 ≤ layer
    pub inside : layer < length ns
    pub passes : pass (at ns layer) ≡ true
    pub empty : link pass ns ≡ empty_mark
    pub is : missed pass ns ≡ layer

  pub missed-over : (ns : List Open) (l : ℕ) → link pass ns ≡ empty_mark → 63 ≤ l → l < length ns → pass (at ns l) ≡ true → l ≤ missed pass ns
  missed-over ns l e h k p =
      let n : 63 + (l - 63) ≡ l = omega arith in
      let there : pass (at (drop 63 ns) (l - 63)) ≡ true = ap pass (get_or-drop 63 ns (l - 63) nowhere ∙ ap (at ns) n) ∙ p in
      rw (eq-eqb (link pass ns) empty_mark e) (omega (arith, largest-reaches 0 63 (drop 63 ns) (l - 63) (omega arith) (omega (arith, length-drop 63 ns)) there))

  pub missed-there : (ns : List Open) → missed pass ns ≢ 0 → Misses ns
  missed-there ns n =
      by-test (eqb (link pass ns) empty_mark)
      (λ t.
      ⊎_elim (λ e. absurd (n (rw t e)))
      (λ r.
      record {
        layer = 63 + r.0;
        high = omega arith;
        inside = omega (arith, r.1, length-drop 63 ns);
        passes = ap pass (sym (get_or-drop 63 ns r.0 nowhere)) ∙ r.2;
        empty = eqb-true (link pass ns) empty_mark t;
        is = rw t r.3;
      })
      (largest-taken 0 63 (drop 63 ns)))
      (λ t. absurd (n (rw t)))

-- ---- of all columns

-- entry `n` of what is said for each open space is that of one of them
pub record Where (g : ℕ → Open → ℕ) (m : ℕ) (cs : List (List Open)) (n : ℕ) : Type 0 where
  pub column : ℕ
  pub layer : ℕ
  pub in_cells : column < length cs
  pub in_cell : layer < length (get_or cs column [])
  pub is : n ≡ length (flatten (take column cs)) + layer

pub for_each-where : (g : ℕ → Open → ℕ) (m : ℕ) (cs : List (List Open)) (n : ℕ) → n < length (for_each g m cs) → Where g m cs n
unfolding flatten
for_each-where g m [] n h = absurd (not-suc-le-zero h)
for_each-where g m (c ∷ cs) n h =
    by-dec (dec_lt n (length c))
    (λ l. record { column = 0; layer = n; in_cells = omega arith; in_cell = l; is = omega arith })
    (λ k.
    let r = for_each-where g (suc m) cs (n - length c) (omega (arith, length-append (map (g m) c) (for_each g (suc m) cs), length-map c (g m))) in
    record {
      column = suc r.column;
      layer = r.layer;
      in_cells = omega (arith, r.in_cells);
      in_cell = r.in_cell;
      is = omega (arith, r.is, flatten-cons c (take r.column cs));
    })
