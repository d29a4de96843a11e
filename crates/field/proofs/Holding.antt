-- A store that holds a field: no slot twice, the chains of its columns, and how many slots there are.
use mathlib.Core.Path.{◌≡◌}
use mathlib.Core.List.{List, [], ◌∷◌}
use Prim.Native.Nat.{ℕ, suc, ◌+◌, ◌<◌, ◌≤◌}
use native.Mathlib.Omega.{arith}
use native.Mathlib.Decide.{dec_lt}
use lib.ListN.{length, get_or}
use Rattle.field.specs.Slots.{none, Slots, times, times_in}
use Rattle.field.specs.Field.{Field, column_at, length_in, Holds}
use Rattle.field.specs.Inner.{Chain, Distinct}
use Rattle.field.proofs.Basics.{by-dec}
use Rattle.field.proofs.Counting.{times_in-zero, times_in-one, total-length, total_in, total_in-nil, total_in-cons, total_in-once}
use Rattle.field.proofs.Chains.{run_past, run_in, chain-of}
use Rattle.field.proofs.Contents.{Long, sized-long}

module _ {heads : List ℕ} {t : Slots} {f : Field} (H : Holds heads t f) where
  -- no slot occurs twice
  pub at_most : (x : ℕ) → times_in x f.columns + times x f.spare ≤ 1
  at_most x =
      by-dec (dec_lt x (length t.nexts)) (λ p. omega (arith, H.once x p))
      (λ q.
      omega (
        arith,
        times_in-zero x f.columns (λ j l. run_past t.nexts (get_or heads j 0) (column_at f j) none x (omega arith) (H.column j (omega (arith, H.wide)))),
        run_past t.nexts t.free f.spare none x (omega arith) H.spare,
      ))

  pub column-distinct : (i : ℕ) → Distinct (column_at f i)
  column-distinct i x = omega (arith, at_most x, times_in-one x f.columns i)

  pub column-chain : (i : ℕ) → i < length heads → Chain t.nexts (get_or heads i 0) (column_at f i)
  column-chain i l = chain-of H.few (H.column i l) (column-distinct i)

  pub spare-chain : Chain t.nexts t.free f.spare
  spare-chain = chain-of H.few H.spare (λ x. omega (arith, at_most x))

  pub contents-long : Long (length t.nexts) f.contents
  contents-long = rw H.contents (sized-long H.sized)

total_in-length : (n : ℕ) (cs : List (List ℕ)) → ((i : ℕ) → i < length cs → (x : ℕ) → 0 < times x (get_or cs i []) → x < n) → total_in n cs ≡ length_in cs
total_in-length n [] h = total_in-nil n
total_in-length n (c ∷ cs) h =
    omega (arith, total_in-cons n c cs, total-length n c (h 0 (omega arith)), total_in-length n cs (λ i p. h (suc i) (omega arith)))

-- Slots in columns plus free slots is the slot total.
pub slot-total : {heads : List ℕ} {t : Slots} {f : Field} → Holds heads t f → length_in f.columns + length f.spare ≡ length t.nexts
slot-total {heads} {t} {f} H =
    omega (
      arith,
      total_in-once (length t.nexts) f.columns f.spare H.once,
      total_in-length (length t.nexts) f.columns (λ i p x q. run_in t.nexts (get_or heads i 0) (column_at f i) none x (H.column i (omega (arith, H.wide))) q),
      total-length (length t.nexts) f.spare (λ x q. run_in t.nexts t.free f.spare none x H.spare q),
    )
