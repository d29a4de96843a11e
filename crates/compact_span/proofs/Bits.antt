-- What the code's shifts and masks compute, in terms of a word's height and links.
use mathlib.Core.Path.{◌≡◌, sym, ap, ap₂, ◌∙◌, subst}
use Prim.Native.Nat.{ℕ, zero, suc, ◌+◌, ◌-◌, ◌*◌, ◌/◌, ◌%◌, ◌^◌, ◌≤◌, ◌<◌}
use native.Mathlib.Nat.{not-suc-le-zero, suc-mul, add-mul, mod-lt, add_comm, add-zero, mul_assoc, mul_comm, lt_of_lt_of_le}
use native.Mathlib.Omega.{arith}
use lib.Dec.{lit<, lit≤}
use lib.ListN.{get_or, set}
use lib.Pow.{pow-add, pow_pos, pow_mono, shr-shr, shr_mod, mod-mod-pow, split, shl_exact, ones_lt}
use lib.Bits.{bit_and, bit_or, and_block, or_block, and_mask, mask_lt, or_zero_r, or_shifted, or_shifted_r}
use Rattle.compact_span.specs.Word.{word, links, height_of, no_links}
use Rattle.compact_span.proofs.Base64.{base64-set, digits-at, base64-digits, word_of}

-- 32 ones but for six zeros at k are the ones above and the ones below
mask-split : (k j : ℕ) → j + (6 + k) ≡ 32 → (2 ^ 32 - 1) - 63 * 2 ^ k ≡ (2 ^ j - 1) * 2 ^ (6 + k) + (2 ^ k - 1)
mask-split k j e =
    let p : 2 ^ 32 ≡ 2 ^ j * 2 ^ (6 + k) = ap (λ (n : ℕ). 2 ^ n) (sym e) ∙ pow-add 2 j (6 + k) in
    let q : 2 ^ (6 + k) ≡ 64 * 2 ^ k = pow-add 2 6 k in
    let m : (2 ^ j - 1) * 2 ^ (6 + k) + 2 ^ (6 + k) ≡ 2 ^ j * 2 ^ (6 + k) = down (2 ^ j) (2 ^ (6 + k)) (pow_pos j) in
    omega (arith, p, q, m, pow_pos k)
  where
    down : (a b : ℕ) → 0 < a → (a - 1) * b + b ≡ a * b
    down zero b h = absurd (not-suc-le-zero h)
    down (suc a) b h = let one : suc a - 1 ≡ a = omega arith in ap (λ (n : ℕ). n * b + b) one ∙ sym (suc-mul a b)

-- what `put` computes of the word x, the shift k and the link v
abbrev pub put_bits : ℕ → ℕ → ℕ → ℕ
put_bits x k v = bit_or (bit_and x ((2 ^ 32 - 1) - (63 * 2 ^ k) % 2 ^ 32)) ((v * 2 ^ k) % 2 ^ 32)

-- j bits stand above the six at k
module _ (x k j v : ℕ) (e : j + (6 + k) ≡ 32) (hx : x < 2 ^ 32) (hv : v < 64) where
  within : 6 + k ≤ 32
  within = omega arith

  -- the six bits at k are cleared
  cleared : bit_and x ((2 ^ 32 - 1) - (63 * 2 ^ k) % 2 ^ 32) ≡ (x / 2 ^ (6 + k)) * 2 ^ (6 + k) + x % 2 ^ k
  cleared =
      ap₂ bit_and (sym (split x (6 + k)))
      (ap (λ (m : ℕ). (2 ^ 32 - 1) - m) (shl_exact {a = 63} 6 k 32 (lit< tt) within) ∙ mask-split k j e)
      ∙ and_block (6 + k) (x / 2 ^ (6 + k)) (2 ^ j - 1) (x % 2 ^ (6 + k)) (2 ^ k - 1) (mod-lt x (pow_pos (6 + k))) small
      ∙ ap₂ (λ (a b : ℕ). a * 2 ^ (6 + k) + b)
      (and_mask (x / 2 ^ (6 + k)) j ∙ shr_mod {n = x} j (6 + k) (subst (λ (n : ℕ). x < 2 ^ n) (sym e) hx))
      (and_mask (x % 2 ^ (6 + k)) k ∙ mod-mod-pow x 6 k)
    where
      small : 2 ^ k - 1 < 2 ^ (6 + k)
      small = lt_of_lt_of_le (ones_lt k) (pow_mono (omega arith))

  -- and v stands there
  stored : put_bits x k v ≡ (x / 2 ^ (6 + k) * 64 + v) * 2 ^ k + x % 2 ^ k
  stored =
      ap₂ bit_or (cleared ∙ ap (λ (a : ℕ). a + x % 2 ^ k) regroup) (shl_exact {a = v} 6 k 32 hv within ∙ sym (add-zero (v * 2 ^ k)))
      ∙ or_block k (x / 2 ^ (6 + k) * 64) v (x % 2 ^ k) 0 (mod-lt x (pow_pos k)) (pow_pos k)
      ∙ ap₂ (λ (a b : ℕ). a * 2 ^ k + b) (or_shifted (x / 2 ^ (6 + k)) 6 v hv) (or_zero_r (x % 2 ^ k))
    where
      regroup : (x / 2 ^ (6 + k)) * 2 ^ (6 + k) ≡ (x / 2 ^ (6 + k) * 64) * 2 ^ k
      regroup = ap (λ (p : ℕ). x / 2 ^ (6 + k) * p) (pow-add 2 6 k) ∙ sym (mul_assoc (x / 2 ^ (6 + k)) 64 (2 ^ k))

  -- so the word changes by the difference of the two links
  changed : put_bits x k v + (x / 2 ^ k % 64) * 2 ^ k ≡ x + v * 2 ^ k
  changed =
      let q : x / 2 ^ k / 64 ≡ x / 2 ^ (6 + k) = shr-shr x k 6 ∙ ap (λ (n : ℕ). x / 2 ^ n) (add_comm k 6) in
      let a : ℕ = x / 2 ^ (6 + k) * 64 in
      let b : ℕ = x / 2 ^ k % 64 in
      let w : x / 2 ^ k ≡ a + b = omega (arith, q) in
      let x-is : (a + b) * 2 ^ k + x % 2 ^ k ≡ x = ap (λ (n : ℕ). n * 2 ^ k + x % 2 ^ k) (sym w) ∙ split x k in
      omega (arith, stored, x-is, add-mul a b (2 ^ k), add-mul a v (2 ^ k))

-- a direction's shift leaves room above it
room : (d : ℕ) → d < 4 → (26 - d * 6) + (6 + d * 6) ≡ 32
room d h = omega arith

-- `put` changes one link of the word
pub put-law : (x d v : ℕ) → x < 2 ^ 32 → d < 4 → v < 64 → put_bits x (d * 6) v ≡ word (height_of x) (set (links x) d v)
put-law x d v hx hd hv =
    let b = base64-set (links x) d v hd in
    let g : get_or (links x) d 0 * 2 ^ (d * 6) ≡ (x / 2 ^ (d * 6) % 64) * 2 ^ (d * 6) = ap (λ (n : ℕ). n * 2 ^ (d * 6)) (digits-at 4 x d 0 hd) in
    omega (arith, b, g, changed x (d * 6) (26 - d * 6) v (room d hd) hx hv, word_of x)

-- `set_height` changes the height, and the links stay
pub height-law : (x h : ℕ) → h < 256 → bit_or (bit_and x (2 ^ 24 - 1)) ((h * 2 ^ 24) % 2 ^ 32) ≡ word h (links x)
height-law x h hh =
    ap₂ bit_or (and_mask x 24) (shl_exact {a = h} 8 24 32 hh (lit≤ tt))
    ∙ or_shifted_r h 24 (x % 2 ^ 24) (mod-lt x (pow_pos 24))
    ∙ ap (λ (n : ℕ). h * 2 ^ 24 + n) (sym (base64-digits 4 x))

-- `new` packs a height with no links
pub new-law : (h : ℕ) → h < 256 → bit_or ((h * 2 ^ 24) % 2 ^ 32) (2 ^ 24 - 1) ≡ word h no_links
new-law h hh = ap (λ (n : ℕ). bit_or n (2 ^ 24 - 1)) (shl_exact {a = h} 8 24 32 hh (lit≤ tt)) ∙ or_shifted h 24 (2 ^ 24 - 1) (lit< tt)

-- `below` puts one link below the 26 bits that stay of what is packed already
pub below-law : (u l : ℕ) → l < 64 → bit_or ((u * 2 ^ 6) % 2 ^ 32) l ≡ l + 64 * (u % 2 ^ 26)
below-law u l hl =
    let shifted : (u * 2 ^ 6) % 2 ^ 32 ≡ u % 2 ^ 26 * 2 ^ 6 = omega arith in
    ap (λ (n : ℕ). bit_or n l) shifted ∙ or_shifted (u % 2 ^ 26) 6 l hl ∙ omega (arith, mul_comm (u % 2 ^ 26) 64)

-- `con` reads a link
pub con-law : (x d : ℕ) → d < 4 → bit_and (x / 2 ^ (d * 6)) (2 ^ 6 - 1) ≡ get_or (links x) d 0
con-law x d h = and_mask (x / 2 ^ (d * 6)) 6 ∙ sym (digits-at 4 x d 0 h)

pub con-lt : (x d : ℕ) → bit_and (x / 2 ^ (d * 6)) (2 ^ 6 - 1) < 2 ^ 6
con-lt x d = mask_lt (x / 2 ^ (d * 6)) 6
