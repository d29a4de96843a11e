-- Words as numbers: what digits in base 64 make and how they come back, so that a word has one height and one list of links.
use mathlib.Core.Path.{◌≡◌, refl, sym, ap, ap₂, ◌∙◌, subst}
use mathlib.Core.List.{List, [], ◌∷◌, map, reverse}
use Rattle.std.specs.List.{fold}
use Prim.Native.Nat.{ℕ, zero, suc, ◌+◌, ◌*◌, ◌/◌, ◌%◌, ◌^◌, ◌<◌}
use native.Mathlib.Nat.{le_of_suc-le-suc, not-suc-le-zero, suc-mul, mul_comm, mul_left_comm, div-one, add_comm}
use native.Mathlib.Omega.{arith}
use lib.ListN.{length, get_or, set}
use lib.Pow.{pow-add, shr-shr, mod-pow-add, high}
use Rattle.compact_span.specs.Word.{base64, digits, word, links, height_of, held}

-- one place further is 64 times as much
place-suc : (d : ℕ) → 2 ^ (suc d * 6) ≡ 64 * 2 ^ (d * 6)
place-suc d = ap (λ (k : ℕ). 2 ^ k) (suc-mul d 6) ∙ pow-add 2 (d * 6) 6 ∙ mul_comm (2 ^ (d * 6)) 64

scaled : (g d : ℕ) → g * 2 ^ (suc d * 6) ≡ 64 * (g * 2 ^ (d * 6))
scaled g d = ap (λ (k : ℕ). g * k) (place-suc d) ∙ mul_left_comm g 64 (2 ^ (d * 6))

-- one digit changes, and the number by as much
pub base64-set : (ls : List ℕ) (d v : ℕ) → d < length ls → base64 (set ls d v) + get_or ls d 0 * 2 ^ (d * 6) ≡ base64 ls + v * 2 ^ (d * 6)
base64-set [] d v h = absurd (not-suc-le-zero h)
base64-set (l ∷ ls) zero v h = omega arith
base64-set (l ∷ ls) (suc d) v h = omega (arith, base64-set ls d v (le_of_suc-le-suc h), scaled (get_or ls d 0) d, scaled v d)

-- the digit at d, as a shift and a remainder read it
pub digits-at : (n x d e : ℕ) → d < n → get_or (digits n x) d e ≡ x / 2 ^ (d * 6) % 64
digits-at zero x d e h = absurd (not-suc-le-zero h)
digits-at (suc n) x zero e h = ap (λ (y : ℕ). y % 64) (sym (div-one x))
digits-at (suc n) x (suc d) e h =
    digits-at n (x / 64) d e (le_of_suc-le-suc h)
    ∙ ap (λ (y : ℕ). y % 64) (shr-shr x 6 (d * 6) ∙ ap (λ (k : ℕ). x / 2 ^ k) (add_comm 6 (d * 6) ∙ sym (suc-mul d 6)))

-- the n lowest digits make what a number has below 64 ^ n
pub base64-digits : (n x : ℕ) → base64 (digits n x) ≡ x % 2 ^ (n * 6)
base64-digits zero x = omega arith
base64-digits (suc n) x =
    let ih : base64 (digits n (x / 64)) ≡ x / 64 % 2 ^ (n * 6) = base64-digits n (x / 64) in
    let e : x % 2 ^ (n * 6 + 6) ≡ (x / 64 % 2 ^ (n * 6)) * 64 + x % 64 = mod-pow-add x (n * 6) 6 in
    let s : x % 2 ^ (suc n * 6) ≡ x % 2 ^ (n * 6 + 6) = ap (λ (k : ℕ). x % 2 ^ k) (suc-mul n 6) in
    omega (arith, mul_comm (x / 64 % 2 ^ (n * 6)) 64)

-- a word is the word of its height and its links
pub word_of : (x : ℕ) → word (height_of x) (links x) ≡ x
word_of x = omega (arith, base64-digits 4 x)

-- every digit is below 64
abbrev pub Digits : List ℕ → Type 0
Digits ls = (i : ℕ) → get_or ls i 0 < 64

-- digits come back from the number that they make, whatever stands above them
pub digits_of : (ls : List ℕ) → Digits ls → (h : ℕ) → digits (length ls) (h * 2 ^ (length ls * 6) + base64 ls) ≡ ls
digits_of [] s h = refl
digits_of (l ∷ ls) s h =
    let n : ℕ = length ls in
    let x : ℕ = h * 2 ^ (suc n * 6) + (l + 64 * base64 ls) in
    let first : x % 64 ≡ l = omega (arith, scaled h n, s 0) in
    let rest : x / 64 ≡ h * 2 ^ (n * 6) + base64 ls = omega (arith, scaled h n, s 0) in
    ap₂ ◌∷◌ first (ap (digits n) rest ∙ digits_of ls (λ i. s (suc i)) h)

pub base64-lt : (ls : List ℕ) → Digits ls → base64 ls < 2 ^ (length ls * 6)
base64-lt [] s = omega arith
base64-lt (l ∷ ls) s = omega (arith, place-suc (length ls), s 0, base64-lt ls (λ i. s (suc i)))

-- what is packed comes back, the links and the height
pub links-of-word : (h : ℕ) (ls : List ℕ) → length ls ≡ 4 → Digits ls → links (word h ls) ≡ ls
links-of-word h ls e s = ap₂ (λ (n m : ℕ). digits n (h * 2 ^ (m * 6) + base64 ls)) (sym e) (sym e) ∙ digits_of ls s h

pub height-of-word : (h : ℕ) (ls : List ℕ) → length ls ≡ 4 → Digits ls → height_of (word h ls) ≡ h
height-of-word h ls e s =
    let lt : base64 ls < 2 ^ 24 = subst (λ (n : ℕ). base64 ls < 2 ^ (n * 6)) e (base64-lt ls s) in
    high h 24 lt

-- a number's digits are below 64, and stay so where a link below 64 is put
pub digits-small : (n x : ℕ) → Digits (digits n x)
digits-small zero x i = omega arith
digits-small (suc n) x zero = omega arith
digits-small (suc n) x (suc i) = digits-small n (x / 64) i

pub set-small : (ls : List ℕ) → Digits ls → (d v : ℕ) → v < 64 → Digits (set ls d v)
set-small [] s d v h i = s i
set-small (l ∷ ls) s zero v h zero = h
set-small (l ∷ ls) s zero v h (suc i) = s (suc i)
set-small (l ∷ ls) s (suc d) v h zero = s zero
set-small (l ∷ ls) s (suc d) v h (suc i) = set-small ls (λ i. s (suc i)) d v h i

-- numbers that are links already are packed as they are
pub held-is : (l : ℕ) → l < 64 → held l ≡ l
held-is l h = omega arith

pub word_held : (h a b c d : ℕ) → a < 64 → b < 64 → c < 64 → d < 64
    → word h (held a ∷ held b ∷ held c ∷ held d ∷ []) ≡ word h (a ∷ b ∷ c ∷ d ∷ [])
word_held h a b c d ha hb hc hd = rw (held-is a ha, held-is b hb, held-is c hc, held-is d hd)

-- one link more below the 26 bits that stay of what is packed
abbrev pub push : ℕ → ℕ → ℕ
push upper l = held l + 64 * (upper % 2 ^ 26)

-- links that go in from the last to the first make the word of the height and the four links
pub push-links : (h : ℕ) (ls : List ℕ) → h < 256 → length ls ≡ 4 → fold push h (reverse ls) ≡ word h (map held ls)
push-links h (a ∷ b ∷ c ∷ d ∷ []) hh e = omega arith
push-links h [] hh e = absurd (omega arith)
push-links h (a ∷ []) hh e = absurd (omega arith)
push-links h (a ∷ b ∷ []) hh e = absurd (omega arith)
push-links h (a ∷ b ∷ c ∷ []) hh e = absurd (omega arith)
push-links h (a ∷ b ∷ c ∷ d ∷ l ∷ ls) hh e = absurd (omega arith)
