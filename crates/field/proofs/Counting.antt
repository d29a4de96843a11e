-- Counting slots: in a list, in the columns together, and below a number.
use mathlib.Core.Path.{◌≡◌, refl, sym, ap}
use mathlib.Core.Logic.{◌≢◌}
use mathlib.Core.List.{List, [], ◌∷◌, ◌++◌}
use Prim.Native.Nat.{ℕ, zero, suc, ◌+◌, ◌<◌, ◌≤◌}
use native.Mathlib.Omega.{arith}
use native.Mathlib.Nat.{not-suc-le-zero, le_of_suc-le-suc, zero-add}
use native.Mathlib.Decide.{dec_lt}
use borrow.Author.Tests.{eq-eqb, ne_eqb}
use lib.ListN.{length, get_or, set}
use Rattle.field.specs.Slots.{same, times, times_in}
use Rattle.field.specs.Inner.{Distinct}
use Rattle.field.proofs.Basics.{by-dec, only}

pub same_refl : (x : ℕ) → same x x ≡ 1
same_refl x = rw (eq-eqb x x refl)

pub same-eq : (x y : ℕ) → x ≡ y → same x y ≡ 1
same-eq x y e = rw (eq-eqb x y e)

pub same-other : (x y : ℕ) → x ≢ y → same x y ≡ 0
same-other x y h = rw (ne_eqb x y h)

-- ---- in one list

pub times-append : (x : ℕ) (a b : List ℕ) → times x (a ++ b) ≡ times x a + times x b
times-append x [] b = sym (zero-add (times x b))
times-append x (y ∷ a) b = omega (arith, times-append x a b)

-- the only slot of a list that the rest does not have
pub times-here : (x s : ℕ) (ss : List ℕ) → 0 < times x (s ∷ ss) → (0 < times x ss → ⊥) → x ≡ s
times-here x s ss p n = only x s (λ d. omega (arith, same-other x s d))

pub times-first : (s : ℕ) (ss : List ℕ) → 0 < times s (s ∷ ss)
times-first s ss = omega (arith, same_refl s)

-- a slot that a list has, and one that it has not
pub times-apart : (x y : ℕ) (ss : List ℕ) → 0 < times x ss → times y ss ≡ 0 → x ≢ y
times-apart x y ss p z e = let k : times x ss ≡ times y ss = ap (λ (n : ℕ). times n ss) e in omega arith

pub distinct_head : (s : ℕ) (ss : List ℕ) → Distinct (s ∷ ss) → times s ss ≡ 0
distinct_head s ss d = omega (arith, d s, same_refl s)

pub distinct_tail : (s : ℕ) (ss : List ℕ) → Distinct (s ∷ ss) → Distinct ss
distinct_tail s ss d x = omega (arith, d x)

-- ---- in the columns together

pub times_in-zero : (x : ℕ) (cs : List (List ℕ)) → ((i : ℕ) → i < length cs → times x (get_or cs i []) ≡ 0) → times_in x cs ≡ 0
times_in-zero x [] h = refl
times_in-zero x (c ∷ cs) h =
    omega (arith, h 0 (omega arith), times_in-zero x cs (λ i p. h (suc i) (omega arith)))

-- one column, and two, count no more than all
pub times_in-one : (x : ℕ) (cs : List (List ℕ)) (i : ℕ) → times x (get_or cs i []) ≤ times_in x cs
times_in-one x [] i = omega arith
times_in-one x (c ∷ cs) zero = omega arith
times_in-one x (c ∷ cs) (suc i) = omega (arith, times_in-one x cs i)

pub times_in-two : (x : ℕ) (cs : List (List ℕ)) (i j : ℕ) → j ≢ i → times x (get_or cs i []) + times x (get_or cs j []) ≤ times_in x cs
times_in-two x [] i j n = omega arith
times_in-two x (c ∷ cs) zero zero n = absurd (n refl)
times_in-two x (c ∷ cs) zero (suc j) n = omega (arith, times_in-one x cs j)
times_in-two x (c ∷ cs) (suc i) zero n = omega (arith, times_in-one x cs i)
times_in-two x (c ∷ cs) (suc i) (suc j) n = omega (arith, times_in-two x cs i j (λ e. n (ap suc e)))

-- a column replaced
pub times_in-set : (x : ℕ) (cs : List (List ℕ)) (i : ℕ) (c' : List ℕ) → i < length cs → times_in x (set cs i c') + times x (get_or cs i []) ≡ times_in x cs + times x c'
times_in-set x [] i c' h = absurd (not-suc-le-zero h)
times_in-set x (c ∷ cs) zero c' h = omega arith
times_in-set x (c ∷ cs) (suc i) c' h = omega (arith, times_in-set x cs i c' (le_of_suc-le-suc h))

pub times_in-append : (x : ℕ) (cs ds : List (List ℕ)) → times_in x (cs ++ ds) ≡ times_in x cs + times_in x ds
times_in-append x [] ds = omega arith
times_in-append x (c ∷ cs) ds = omega (arith, times_in-append x cs ds)

-- a slot that the columns have is in one of them
pub times_in-some : (x : ℕ) (cs : List (List ℕ)) → 0 < times_in x cs → (i : ℕ) × (i < length cs) × (0 < times x (get_or cs i []))
times_in-some x [] p = absurd (omega arith)
times_in-some x (c ∷ cs) p =
    by-dec (dec_lt 0 (times x c)) (λ l. (0, omega arith, l))
    (λ n. let k = times_in-some x cs (omega arith) in (suc k.0, omega (arith, k.1), k.2))

-- ---- the slots below n, together

abbrev pub total : ℕ → List ℕ → ℕ
total zero ss = 0
total (suc n) ss = times n ss + total n ss

total-nil : (n : ℕ) → total n [] ≡ 0
total-nil zero = refl
total-nil (suc n) = omega (arith, total-nil n)

total-skip : (n s : ℕ) (ss : List ℕ) → n ≤ s → total n (s ∷ ss) ≡ total n ss
total-skip zero s ss h = refl
total-skip (suc n) s ss h = omega (arith, total-skip n s ss (omega arith), same-other n s (λ e. omega arith))

total-hit : (n s : ℕ) (ss : List ℕ) → s < n → total n (s ∷ ss) ≡ suc (total n ss)
total-hit zero s ss h = absurd (not-suc-le-zero h)
total-hit (suc n) s ss h =
    by-dec (dec_lt s n) (λ p. omega (arith, total-hit n s ss p, same-other n s (λ e. omega arith)))
    (λ q. omega (arith, total-skip n s ss (omega arith), same-eq n s (omega arith)))

-- a list of slots below n has as many as all of them occur in it
pub total-length : (n : ℕ) (ss : List ℕ) → ((x : ℕ) → 0 < times x ss → x < n) → total n ss ≡ length ss
total-length n [] h = total-nil n
total-length n (s ∷ ss) h =
    omega (arith, total-hit n s ss (h s (times-first s ss)), total-length n ss (λ x p. h x (omega arith)))

total-distinct : (n : ℕ) (ss : List ℕ) → Distinct ss → total n ss ≤ n
total-distinct zero ss d = omega arith
total-distinct (suc n) ss d = omega (arith, d n, total-distinct n ss d)

-- so a list of them with none twice is no longer than n
pub distinct-short : (n : ℕ) (ss : List ℕ) → ((x : ℕ) → 0 < times x ss → x < n) → Distinct ss → length ss ≤ n
distinct-short n ss h d = omega (arith, total-length n ss h, total-distinct n ss d)

abbrev pub total_in : ℕ → List (List ℕ) → ℕ
total_in zero cs = 0
total_in (suc n) cs = times_in n cs + total_in n cs

pub total_in-nil : (n : ℕ) → total_in n [] ≡ 0
total_in-nil zero = refl
total_in-nil (suc n) = omega (arith, total_in-nil n)

pub total_in-cons : (n : ℕ) (c : List ℕ) (cs : List (List ℕ)) → total_in n (c ∷ cs) ≡ total n c + total_in n cs
total_in-cons zero c cs = omega arith
total_in-cons (suc n) c cs = omega (arith, total_in-cons n c cs)

-- where each slot below n occurs once, they are n
pub total_in-once : (n : ℕ) (cs : List (List ℕ)) (sp : List ℕ) → ((x : ℕ) → x < n → times_in x cs + times x sp ≡ 1) → total_in n cs + total n sp ≡ n
total_in-once zero cs sp h = omega arith
total_in-once (suc n) cs sp h = omega (arith, h n (omega arith), total_in-once n cs sp (λ x p. h x (omega arith)))
