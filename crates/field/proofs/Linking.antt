-- A slot linked into a column, between the spans below it and those above.
use mathlib.Core.Path.{◌≡◌, sym, subst}
use mathlib.Core.Logic.{◌≢◌}
use mathlib.Core.List.{List, [], ◌∷◌, ◌++◌}
use Prim.Native.Nat.{ℕ, ◌+◌, ◌<◌, ◌≤◌}
use native.Mathlib.Omega.{arith}
use borrow.Author.Tests.{ne_eqb}
use lib.ListN.{length, get_or, set, length-set}
use lib.Seq.{get_or-set_same, get_or-set_other, set-append_left}
use lib.Dec.{eqb}
use Rattle.field.specs.Slots.{none, Run, same, times}
use Rattle.field.specs.Inner.{first_or, last_or, link_heads, link_nexts}
use Rattle.field.proofs.Basics.{by-test}
use Rattle.field.proofs.Counting.{same_refl}
use Rattle.field.proofs.Chains.{run-set, run-front, run_join, run-relink, run-last, last-in}

pub link-other : (nx : List ℕ) (p s x : ℕ) → x ≢ p → get_or (link_nexts nx p s) x 0 ≡ get_or nx x 0
link-other nx p s x n = by-test (eqb p none) (λ e. rw e) (λ e. rw e (get_or-set_other nx p x s 0 n))

pub link-length : (nx : List ℕ) (p s : ℕ) → length (link_nexts nx p s) ≡ length nx
link-length nx p s = by-test (eqb p none) (λ e. rw e) (λ e. rw e (length-set nx p s))

pub link-heads-other : (heads : List ℕ) (i p s j : ℕ) → j ≢ i → get_or (link_heads heads i p s) j 0 ≡ get_or heads j 0
link-heads-other heads i p s j n = by-test (eqb p none) (λ e. rw e (get_or-set_other heads i j s 0 n)) (λ e. rw e)

pub link-heads-length : (heads : List ℕ) (i p s : ℕ) → length (link_heads heads i p s) ≡ length heads
link-heads-length heads i p s = by-test (eqb p none) (λ e. rw e (length-set heads i s)) (λ e. rw e)

-- heads that belong to others are left
pub link-heads-append : (heads others : List ℕ) (i p s : ℕ) → i < length heads → link_heads (heads ++ others) i p s ≡ link_heads heads i p s ++ others
link-heads-append heads others i p s l = by-test (eqb p none) (λ e. rw e (set-append_left heads others i s l)) (λ e. rw e)

run-column-cons : (heads nx : List ℕ) (i k : ℕ) (low : List ℕ) (s e : ℕ) (rest : List ℕ)
    → length nx ≤ none → s < length nx
    → Run nx (get_or heads i 0) (k ∷ low) e → Run nx (first_or none rest) rest none
    → ((x : ℕ) → times x (k ∷ low) + (same x s + times x rest) ≤ 1)
    → Run (link_nexts (set nx s (first_or none rest)) (last_or k low) s) (get_or (link_heads heads i (last_or k low) s) i 0) (k ∷ low ++ s ∷ rest) none
run-column-cons heads nx i k low s e rest few lt under above d =
    let nx₂ = set nx s (first_or none rest) in
    let p = last_or k low in
    let there : p ≢ none = λ q. omega (arith, run-last nx (get_or heads i 0) k low e under) in
    let inside : 0 < times p (k ∷ low) = last-in k low in
    let at : link_nexts nx₂ p s ≡ set nx₂ p s = rw (ne_eqb p none there) in
    let from : link_heads heads i p s ≡ heads = rw (ne_eqb p none there) in
    subst (λ (ys : List ℕ). Run ys (get_or (link_heads heads i p s) i 0) (k ∷ low ++ s ∷ rest) none) (sym at)
    (subst (λ (hs : List ℕ). Run (set nx₂ p s) (get_or hs i 0) (k ∷ low ++ s ∷ rest) none) (sym from)
    (run_join (set nx₂ p s) (get_or heads i 0) (k ∷ low) (s ∷ rest) s none
    (run-relink nx₂ (get_or heads i 0) k low e s (λ x. omega (arith, d x))
    (run-set nx s (first_or none rest) (get_or heads i 0) (k ∷ low) e (omega (arith, d s, same_refl s)) under))
    (run-set nx₂ p s s (s ∷ rest) none (omega (arith, d p)) (run-front nx s (first_or none rest) rest none lt (omega (arith, d s, same_refl s)) above))))

-- the column with slot s in it
pub run-column : (heads nx : List ℕ) (i : ℕ) (low : List ℕ) (s e : ℕ) (rest : List ℕ)
    → i < length heads → length nx ≤ none → s < length nx
    → Run nx (get_or heads i 0) low e → Run nx (first_or none rest) rest none
    → ((x : ℕ) → times x low + (same x s + times x rest) ≤ 1)
    → Run (link_nexts (set nx s (first_or none rest)) (last_or none low) s) (get_or (link_heads heads i (last_or none low) s) i 0) (low ++ s ∷ rest) none
run-column heads nx i [] s e rest l few lt under above d =
    rw (get_or-set_same heads i s 0 l) (run-front nx s (first_or none rest) rest none lt (omega (arith, d s, same_refl s)) above)
run-column heads nx i (k ∷ low) s e rest l few lt under above d =
    run-column-cons heads nx i k low s e rest few lt under above d
