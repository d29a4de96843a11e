-- A fresh field: slices filled with one value, and the chain of all slots.
use mathlib.Core.Path.{◌≡◌, refl, sym, ap, ◌∙◌}
use mathlib.Core.List.{List, [], ◌++◌}
use Prim.Native.Nat.{ℕ, zero, suc, ◌+◌, ◌<◌, ◌≤◌}
use native.Mathlib.Omega.{arith}
use native.Mathlib.Decide.{ℕ_discrete}
use borrow.Author.Tests.{eq-eqb, ne_eqb}
use lib.ListN.{length, get_or, take, drop, replicate, length-replicate, get_or-replicate}
use lib.Seq.{length-take-le, take_at, drop_at}
use Rattle.replies.specs.Said.{just}
use Rattle.field.specs.Slots.{none, Slots, slots, Run, times, times_in}
use Rattle.field.specs.Field.{Holds, count_from, fresh_field, ranges}
use Rattle.field.specs.Store.{Fits}
use Rattle.field.specs.Calls.{made, IsFresh}
use Rattle.field.specs.Inner.{after}
use Rattle.field.proofs.Basics.{by-dec}
use Rattle.field.proofs.Counting.{same-other, same-eq}
use Rattle.field.proofs.Stretching.{Covers, covers-none}

-- ---- the chain of all slots

-- each slot has the next one after it, and the last none
abbrev pub Numbered : ℕ → List ℕ → Type 0
Numbered n nx = (length nx ≡ n) × ((k : ℕ) → k < n → get_or nx k 0 ≡ after n k)

run-count : (nx : List ℕ) (N : ℕ) → Numbered N nx → (m k : ℕ) → k + m ≡ N → 0 < m → Run nx k (count_from k m) none
run-count nx N z zero k e p = absurd (omega arith)
run-count nx N z (suc zero) k e p =
    (refl, omega (arith, z.0), z.1 k (omega arith) ∙ rw (eq-eqb (suc k) N (omega arith)))
run-count nx N z (suc (suc m)) k e p = (
  refl,
  omega (arith, z.0),
  rw (z.1 k (omega arith), ne_eqb (suc k) N (λ q. omega arith)) (run-count nx N z (suc m) (suc k) (omega arith) (omega arith)),
)

times-before : (m k x : ℕ) → x < k → times x (count_from k m) ≡ 0
times-before zero k x l = refl
times-before (suc m) k x l = omega (arith, same-other x k (λ e. omega arith), times-before m (suc k) x (omega arith))

times-count : (m k x : ℕ) → k ≤ x → x < k + m → times x (count_from k m) ≡ 1
times-count zero k x l p = absurd (omega arith)
times-count (suc m) k x l p =
    by-dec (ℕ_discrete x k) (λ e. omega (arith, same-eq x k e, times-before m (suc k) x (omega arith)))
    (λ d. omega (arith, same-other x k d, times-count m (suc k) x (omega arith) (omega arith)))

times_in-none : (w x : ℕ) → times_in x (replicate w []) ≡ 0
times_in-none zero x = refl
times_in-none (suc w) x = omega (arith, times_in-none w x)

-- ---- the field

pub fresh_holds : (w N : ℕ) (nx : List ℕ) → Numbered N nx → 0 < N → N ≤ none → Holds (replicate w none) (slots 0 (replicate N 0) (replicate N 0) (replicate N 0) nx) (fresh_field w N)
fresh_holds w N nx step p few =
    let z : length {A = ℕ} (replicate N 0) ≡ length nx = length-replicate N 0 ∙ sym step.0 in
    let empty : (i : ℕ) → i < length {A = ℕ} (replicate w none) → (get_or (replicate w none) i 0 ≡ none) × (get_or {A = List ℕ} (replicate w []) i [] ≡ []) =
    λ i l. let m : i < w = rw (length-replicate w none) at l in (get_or-replicate w i none 0 m, get_or-replicate w i [] [] m)
    in
    record {
      sized = record { floors = z; ceilings = z; areas = z };
      few = omega (arith, step.0);
      wide = length-replicate w [] ∙ sym (length-replicate w none);
      contents = refl;
      column = λ i l. rw ((empty i l).0, (empty i l).1) refl;
      spare = run-count nx N step N 0 (omega arith) p;
      once = λ x l. omega (arith, times_in-none w x, times-count N 0 x (omega arith) (omega (arith, step.0)));
      ascends = λ i l. rw (empty i l).1 tt;
    }

-- as the code makes it: the first `k` heads are lent on, and each list is filled by itself
pub fresh-made : (n : ℕ) (heads : List ℕ) (t : Slots) (k : ℕ) → k ≡ n → Fits n heads t → {part fl ce ar nx : List ℕ} → part ≡ replicate (length (take k heads)) none → fl ≡ replicate (length t.contents.floors) 0 → ce ≡ replicate (length t.contents.ceilings) 0 → ar ≡ replicate (length t.contents.areas) 0 → Numbered (length t.nexts) nx → IsFresh n heads t (made (just 0) (part ++ drop k heads) (slots 0 fl ce ar nx))
fresh-made n heads t k e F {part} {fl} {ce} {ar} {nx} eh ef ec ea step =
    let N = length t.nexts in
    let first : length (take k heads) ≡ n = length-take-le k heads (omega (arith, F.enough)) ∙ e in
    let long : length part ≡ n = ap length eh ∙ length-replicate (length (take k heads)) none ∙ first in
    let H : Holds (replicate n none) (slots 0 fl ce ar nx) (fresh_field n N) =
    rw (ef, ec, ea, F.floors-fit, F.ceilings-fit, F.areas-fit) (fresh_holds n N nx step F.some (omega (arith, F.few)))
    in
    record {
      says = refl;
      holds = rw (take_at part (drop k heads) n long, eh, first) H;
      beyond = drop_at part (drop k heads) n long ∙ rw e;
    }

-- no column has anything before the first offer
pub fresh-covers : (w N j : ℕ) → j < w → Covers [] (ranges (fresh_field w N) j)
fresh-covers w N j l = rw (get_or-replicate {A = List ℕ} w j [] [] l) covers-none
