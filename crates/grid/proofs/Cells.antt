-- Of a whole number that counts from 1 to 4,096, of a grid's width and height, and of their product.
use mathlib.Core.Path.{◌≡◌, refl, sym}
use mathlib.Core.Bool.{Bool, true, false, cond, ◌&&◌, true≢false, and-false}
use Prim.Native.Nat.{ℕ, ◌*◌, ◌^◌, ◌≤◌, ◌<◌}
use native.Mathlib.Omega.{arith}
use native.Mathlib.Nat.{mul-le-mul}
use lib.Dec.{ltb, leb}
use lib.IntN.{ℤ, pos, negsuc, nat_abs}
use lib.Signed.{le_z}
use borrow.Author.Tests.{ltb-true, leb-true, le-leb, lt-leb, lt-ltb}
use lib.Ieee.{to_signed}
use Rattle.grid.specs.Grid.{or_none, size_ok, width, height, width_float, height_float}
use Rattle.ops.proofs.Tests.{both}
use Rattle.grid.specs.declared.Grid.{Grid}

-- ---- by the two tests of the code

pub counted : (n : ℤ) → le_z (pos 1) n ≡ true → le_z n (pos 4096) ≡ true → (nat_abs n ≡ or_none n) × (0 < nat_abs n)
unfolding or_none
counted (pos n) h k = (rw (h, k) refl, leb-true 1 n h)
counted (negsuc n) h k = absurd (true≢false (sym h))

pub too_low : (n : ℤ) → le_z (pos 1) n ≡ false → or_none n ≡ 0
unfolding or_none
too_low n h = rw h refl

pub too-high : (n : ℤ) → le_z (pos 1) n ≡ true → le_z n (pos 4096) ≡ false → or_none n ≡ 0
unfolding or_none
too-high n h k = rw (h, k) refl

pub or_none-le : (n : ℤ) → or_none n ≤ 4096
unfolding or_none
or_none-le (pos n) = go (leb 1 n) (leb n 4096) refl
  where
    go : (a b : Bool) → leb n 4096 ≡ b → cond (a && b) n 0 ≤ 4096
    go true true h = leb-true n 4096 h
    go true false h = omega arith
    go false b h = omega arith
or_none-le (negsuc n) = omega arith

pub width-le : (g : Grid) → width g ≤ 4096
unfolding width
width-le g = or_none-le (to_signed 31 (width_float g))

pub height-le : (g : Grid) → height g ≤ 4096
unfolding height
height-le g = or_none-le (to_signed 31 (height_float g))

-- ---- the product of two such numbers

pub product-fits : (a b : ℕ) → a ≤ 4096 → b ≤ 4096 → a * b < 2 ^ 32
product-fits a b h k = omega (arith, mul-le-mul h k)

pub size-facts : (w h : ℕ) → size_ok w h ≡ true → (0 < w) × ((0 < h) × (w * h ≤ 1048576))
unfolding size_ok
size-facts w h e =
    let one = both (ltb 0 w) _ e in
    let two = both (ltb 0 h) _ one.1 in
    (ltb-true 0 w one.0, (ltb-true 0 h two.0, leb-true (w * h) 1048576 two.1))

pub is_size : (w h : ℕ) → 0 < w → 0 < h → w * h ≤ 1048576 → size_ok w h ≡ true
unfolding size_ok
is_size w h a b c = rw (lt-ltb 0 w a, lt-ltb 0 h b, le-leb (w * h) 1048576 c)

pub too-many : (w h : ℕ) → 0 < w → 0 < h → 1048576 < w * h → size_ok w h ≡ false
unfolding size_ok
too-many w h a b c = rw (lt-ltb 0 w a, lt-ltb 0 h b, lt-leb (w * h) 1048576 c)

pub no_width : (w h : ℕ) → w ≡ 0 → size_ok w h ≡ false
unfolding size_ok
no_width w h e = rw e

pub no_height : (w h : ℕ) → h ≡ 0 → size_ok w h ≡ false
unfolding size_ok
no_height w h e = rw (e, and-false (ltb 0 w))
