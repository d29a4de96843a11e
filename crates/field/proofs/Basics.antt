-- Splitting on a test or on a decision, and what two truth values say.
use mathlib.Core.Path.{◌≡◌, refl, sym}
use mathlib.Core.Logic.{◌≢◌}
use mathlib.Core.Bool.{Bool, true, false, not}
use mathlib.Core.List.{List, [], ◌∷◌}
use Prim.Native.Nat.{ℕ}
use native.Mathlib.Omega.{arith}
use native.Mathlib.Decide.{dec_lt}
use lib.ListN.{length}
use Rattle.field.specs.Inner.{Says}

pub by-test : {X : Type 0} (b : Bool) → (b ≡ true → X) → (b ≡ false → X) → X
by-test true f g = f refl
by-test false f g = g refl

pub by-dec : {A X : Type 0} → Dec A → (A → X) → ((A → ⊥) → X) → X
by-dec (yes a) f g = f a
by-dec (no a) f g = g a

pub true-false : true ≡ false → ⊥
true-false e = let z : ◌≡◌ {A = ℕ} 0 1 = cc in omega arith

pub not-true-false : (b : Bool) → (b ≡ true → ⊥) → b ≡ false
not-true-false true h = absurd (h refl)
not-true-false false h = refl

-- two numbers that cannot differ are equal
pub only : (a b : ℕ) → ((a ≢ b) → ⊥) → a ≡ b
only a b k =
    by-dec (dec_lt a b) (λ l. absurd (k (λ e. omega arith)))
    (λ l. by-dec (dec_lt b a) (λ m. absurd (k (λ e. omega arith))) (λ m. omega arith))

pub no_length : {A : Type 0} (l : List A) → length l ≡ 0 → l ≡ []
no_length [] e = refl
no_length (x ∷ l) e = absurd (omega arith)

-- ---- an answer that is true exactly when a fact holds

pub says_if : {P : Type 0} (b : Bool) → (b ≡ true → P) → (b ≡ false → P → ⊥) → Says b P
says_if true f g = f refl
says_if false f g = g refl

pub says-iff : {P Q : Type 0} (b : Bool) → (P → Q) → (Q → P) → Says b P → Says b Q
says-iff true to back p = to p
says-iff false to back n = λ q. n (back q)

-- the answer tested in code, by its negation
pub says-true : {P : Type 0} (b : Bool) → not b ≡ false → Says b P → P
says-true true e s = s
says-true false e s = absurd (true-false e)

pub says-false : {P : Type 0} (b : Bool) → not b ≡ true → Says b P → P → ⊥
says-false true e s = absurd (true-false (sym e))
says-false false e s = s
