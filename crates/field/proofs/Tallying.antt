-- Counting the open spaces of a column, and of all columns together (reply 11).
use mathlib.Core.Path.{◌≡◌, refl, sym, ap, ◌∙◌}
use mathlib.Core.Logic.{◌≢◌}
use mathlib.Core.Bool.{Bool, true, false, cond}
use mathlib.Core.List.{List, [], ◌++◌, map, flatten}
use Prim.Native.Nat.{ℕ, suc, ◌+◌, ◌<◌, ◌≤◌}
use native.Mathlib.Omega.{arith}
use native.Mathlib.Nat.{add-zero}
use native.Mathlib.Decide.{dec_lt}
use lib.ListN.{length, get_or, take, length-append}
use lib.Seq.{take_all}
use lib.Dec.{eqb}
use Rattle.field.specs.Slots.{none, contents, span_at, slots}
use Rattle.field.specs.Field.{Field, column_at, Holds}
use Rattle.field.specs.Inner.{Chain}
use Rattle.field.specs.Walkable.{roof}
use Rattle.field.specs.Open.{Open, open_above, opens, columns_of, cells}
use Rattle.field.specs.Compact.{Few}
use Rattle.field.proofs.Basics.{by-dec}
use Rattle.field.proofs.Chains.{chain-cons, chain-nil, chain-unique, chain-slot}
use Rattle.field.proofs.Holding.{column-chain}
use Rattle.field.proofs.Lists.{flatten-next}
use Rattle.field.proofs.Opening.{above-length, cell-spans}

-- ---- a walk up one column

add-cond : (b : Bool) (n : ℕ) → n + cond b 0 1 ≡ cond b n (n + 1)
add-cond true n = add-zero n
add-cond false n = refl

cond_small : (b : Bool) → cond b 0 1 ≤ 1
cond_small true = omega arith
cond_small false = omega arith

-- with `n` counted so far, what is left of the column gives the count of the whole, whatever the heights are
pub record Tallying (ar nx : List ℕ) (head n at : ℕ) : Type 0 where
  pub ss : List ℕ
  pub left : List ℕ
  pub whole : Chain nx head ss
  pub here : Chain nx at left
  pub sizes : length ar ≡ length nx
  pub few : n + length left ≤ none
  pub onward : (fl ce : List ℕ) → n + length (opens (map (span_at (contents fl ce ar)) left)) ≡ length (opens (map (span_at (contents fl ce ar)) ss))

pub tallying-start : {ar nx : List ℕ} {head : ℕ} (ss : List ℕ) → length ar ≡ length nx → Chain nx head ss → Tallying ar nx head 0 head
tallying-start ss l c =
    record {
      ss = ss;
      left = ss;
      whole = c;
      here = c;
      sizes = l;
      few = omega (arith, c.short, c.few);
      onward = λ fl ce. omega arith;
    }

module _ {ar nx : List ℕ} {head n at : ℕ} (p : Tallying ar nx head n at) where
  pub tallying-slot : at ≢ none → (at < length nx) × (length nx ≤ none) × (n < none)
  tallying-slot e =
      let q = chain-cons p.left p.here e in
      (chain-slot p.left p.here e, p.here.few, omega (arith, ap length q.1, p.few))

  pub tallying-step : at ≢ none → {n' : ℕ} → n' ≡ cond (eqb (get_or ar at 0) 0) n (n + 1) → Tallying ar nx head n' (get_or nx at 0)
  tallying-step e {n'} en =
      let q = chain-cons p.left p.here e in
      let b = eqb (get_or ar at 0) 0 in
      let s : n + cond b 0 1 ≡ n' = add-cond b n ∙ sym en in
      record {
        ss = p.ss;
        left = q.0;
        whole = p.whole;
        here = q.2;
        sizes = p.sizes;
        few = omega (arith, ap length q.1, p.few, cond_small b);
        onward =
            λ fl ce.
            let k = contents fl ce ar in
            let a = open_above (span_at k at) (roof (map (span_at k) q.0)) in
            let r = opens (map (span_at k) q.0) in
            let o : n + length (a ++ r) ≡ length (opens (map (span_at k) p.ss)) = rw q.1 at (p.onward fl ce) in
            omega (arith, o, length-append a r, above-length (span_at k at) (roof (map (span_at k) q.0)));
      }

  pub tallying-end : at ≡ none → (fl ce ss : List ℕ) → Chain nx head ss → n ≡ length (opens (map (span_at (contents fl ce ar)) ss))
  tallying-end e fl ce ss c =
      rw (chain-unique c p.whole) (sym (add-zero n) ∙ rw (chain-nil p.left p.here e) at (p.onward fl ce))

-- ---- all columns

-- the cells before `i` have few open spaces, `total` in all
pub record Adding (cs : List (List Open)) (total i : ℕ) : Type 0 where
  pub few : (j : ℕ) → j < i → length (get_or cs j []) ≤ 255
  pub sum : total ≡ length (flatten (take i cs))

pub adding-start : (cs : List (List Open)) → Adding cs 0 0
unfolding flatten
adding-start cs = record { few = λ j h. absurd (omega arith); sum = refl }

pub adding-step : {cs : List (List Open)} {total i n : ℕ} → Adding cs total i → i < length cs → n ≡ length (get_or cs i []) → n ≤ 255 → Adding cs (total + n) (suc i)
adding-step {cs} {total} {i} {n} p l e h =
    record {
      few =
          λ j m.
          by-dec (dec_lt j i) (λ k. p.few j k)
          (λ k. let q : j ≡ i = omega arith in rw (q, ← e) h);
      sum = omega (arith, p.sum, flatten-next cs i l);
    }

pub adding-end : {cs : List (List Open)} {total i : ℕ} → Adding cs total i → i ≡ length cs → Few cs × (total ≡ length (flatten cs))
adding-end {cs} {total} {i} p e =
    (λ j l. p.few j (omega arith), p.sum ∙ ap (λ (l : List (List Open)). length (flatten l)) (take_all i cs (omega arith)))

-- what a walk up column `i` counts is the length of its cell
pub counted : {heads : List ℕ} {free : ℕ} {fl ce ar nx : List ℕ} {f : Field} → Holds heads (slots free fl ce ar nx) f → {i n : ℕ} → i < length heads → ((fl ce ss : List ℕ) → Chain nx (get_or heads i 0) ss → n ≡ length (opens (map (span_at (contents fl ce ar)) ss))) → n ≡ length (get_or (cells (columns_of f)) i [])
counted {fl = fl} {ce = ce} {f = f} H {i} l e = e fl ce (column_at f i) (column-chain H i l) ∙ ap length (sym (cell-spans H i))
