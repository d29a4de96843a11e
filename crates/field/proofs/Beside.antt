-- The columns beside a column: their numbers are those of columns, and there are four of them unless it lies at the rim.
use mathlib.Core.Path.{◌≡◌, refl, sym, ap, ap₂, subst, ◌∙◌}
use mathlib.Core.Logic.{◌≢◌, inl, inr, ⊎_elim}
use mathlib.Core.Bool.{cond}
use mathlib.Core.List.{List, [], ◌∷◌}
use Prim.Native.Nat.{ℕ, zero, suc, ◌+◌, ◌-◌, ◌*◌, ◌/◌, ◌%◌, ◌<◌, ◌≤◌}
use native.Mathlib.Omega.{arith}
use native.Mathlib.Nat.{mul_comm, mul-le-mul_right, mul-le-mul_left, mul-one, suc-mul, zero-mul, mod-lt, mod-eq_of_lt, div-eq_of_lt, div-lt_iff_lt-mul, add-mul-div_right, add-mul-mod_self_right, zero-add}
use native.Mathlib.Numerals.{add-one}
use native.Mathlib.Decide.{dec_lt}
use borrow.Author.Tests.{lt-ltb, le-ltb, ltb-true, eqb-true, eqb-false}
use lib.ListN.{get_or}
use lib.Dec.{ltb, eqb}
use Rattle.grid.proofs.Places.{cell_below}
use Rattle.field.specs.Slots.{none}
use Rattle.field.specs.Stretches.{In}
use Rattle.field.specs.Inner.{Says}
use Rattle.field.specs.Beside.{beside_at, beside}
use Rattle.field.specs.FilterCode.{Rim, around}
use Rattle.field.proofs.Basics.{by-dec, by-test, says_if}

-- ---- a column's number and its place

-- a grid with a column is not 0 wide
pub some-width : (i w h : ℕ) → i < w * h → 0 < w
some-width i w h p =
    by-dec (dec_lt 0 w) (λ l. l)
    (λ n. let z : w ≡ 0 = omega arith in absurd (omega (arith, ap (λ (k : ℕ). k * h) z, zero-mul h)))

pub place : (i w h : ℕ) → i < w * h → (i % w < w) × (i / w < h)
place i w h p =
    let q = some-width i w h p in
    (mod-lt i q, (div-lt_iff_lt-mul q).1 (omega (arith, mul_comm w h)))

-- the row of a column is one of the grid's
pub row_below : (x z w h : ℕ) → x + z * w < w * h → z < h
row_below x z w h l =
    by-dec (dec_lt z h) (λ k. k) (λ n. absurd (omega (arith, mul-le-mul_right w (not-lt h z n), mul_comm w h)))
  where
    not-lt : (h z : ℕ) → (z < h → ⊥) → h ≤ z
    not-lt h z n = omega arith

-- neither side of a grid is longer than it has columns
pub side-below : (w h : ℕ) → 0 < h → w ≤ w * h
side-below w h l = omega (arith, mul-le-mul_left w l, mul-one w)

pub cell-x : (x z w : ℕ) → x < w → (x + z * w) % w ≡ x
cell-x x z w l = add-mul-mod_self_right x z w ∙ mod-eq_of_lt l

pub cell-z : (x z w : ℕ) → x < w → (x + z * w) / w ≡ z
cell-z x z w l = add-mul-div_right x z (omega arith) ∙ ap (λ (n : ℕ). n + z) (div-eq_of_lt l) ∙ zero-add z

-- the columns beside the one at x, z
pub beside_at_lem : (w h x z : ℕ) → x < w → beside w h (x + z * w) ≡ beside_at w h x z
beside_at_lem w h x z l = ap₂ (λ (a b : ℕ). beside_at w h a b) (cell-x x z w l) (cell-z x z w l)

-- ---- on the grid

-- a number that is there if a test holds, and is then below a bound
there : (a b k n : ℕ) → (a < b → k < n) → cond (ltb a b) k none ≢ none → cond (ltb a b) k none < n
there a b k n f = by-test (ltb a b) (λ t. rw t (λ d. f (ltb-true a b t))) (λ t. rw t (λ d. absurd (d refl)))

-- in each direction the number is a column's, or `none`
pub beside-below : (w h x z d : ℕ) → x < w → z < h → get_or (beside_at w h x z) d none ≢ none → get_or (beside_at w h x z) d none < w * h
beside-below w h x z zero p q n = there 0 x (x - 1 + z * w) (w * h) (λ l. cell_below (x - 1) z w h (omega arith) q) n
beside-below w h x z (suc zero) p q n = there (z + 1) h (x + (z + 1) * w) (w * h) (λ l. cell_below x (z + 1) w h p l) n
beside-below w h x z (suc (suc zero)) p q n = there (x + 1) w (x + 1 + z * w) (w * h) (λ l. cell_below (x + 1) z w h l q) n
beside-below w h x z (suc (suc (suc zero))) p q n = there 0 z (x + (z - 1) * w) (w * h) (λ l. cell_below x (z - 1) w h p (omega arith)) n
beside-below w h x z (suc (suc (suc (suc d)))) p q n = absurd (n refl)

-- ---- at the rim

off : (a b k : ℕ) → b ≤ a → none ≡ cond (ltb a b) k none
off a b k l = rw (le-ltb a b l)

beside-rim : (w h x z : ℕ) → Rim w h x z → In none (beside_at w h x z)
beside-rim w h x z (inl e) = inl (off 0 x (x - 1 + z * w) (omega arith))
beside-rim w h x z (inr (inl l)) = inr (inl (off (z + 1) h (x + (z + 1) * w) l))
beside-rim w h x z (inr (inr (inl l))) = inr (inr (inl (off (x + 1) w (x + 1 + z * w) l)))
beside-rim w h x z (inr (inr (inr e))) = inr (inr (inr (inl (off 0 z (x + (z - 1) * w) (omega arith)))))

-- one of the four is off the grid
pub beside-off : (w h x z : ℕ) → x < w → Rim w h x z → In none (beside w h (x + z * w))
beside-off w h x z l r = subst (λ (ks : List ℕ). In none ks) (sym (beside_at_lem w h x z l)) (beside-rim w h x z r)

-- a place that is at the rim for no other reason is there if z is 0
pub rim-says : (w h x z : ℕ) → x ≢ 0 → z + 1 < h → x + 1 < w → Says (eqb z 0) (Rim w h x z)
rim-says w h x z a b c =
    says_if (eqb z 0) (λ e. inr (inr (inr (eqb-true z 0 e))))
    (λ e. ⊎_elim a (⊎_elim (λ l. omega arith) (⊎_elim (λ l. omega arith) (eqb-false z 0 e))))

-- elsewhere
pub rim-not : (w h x z : ℕ) → (Rim w h x z → ⊥) → (0 < x) × (z + 1 < h) × (x + 1 < w) × (0 < z)
rim-not w h x z n = (
  by-dec (dec_lt 0 x) (λ l. l) (λ k. absurd (n (inl (omega arith)))),
  by-dec (dec_lt (z + 1) h) (λ l. l) (λ k. absurd (n (inr (inl (omega arith))))),
  by-dec (dec_lt (x + 1) w) (λ l. l) (λ k. absurd (n (inr (inr (inl (omega arith)))))),
  by-dec (dec_lt 0 z) (λ l. l) (λ k. absurd (n (inr (inr (inr (omega arith)))))),
)

-- ---- inside

beside-inner : (w h x z : ℕ) → 0 < x → z + 1 < h → x + 1 < w → 0 < z → beside_at w h x z ≡ around w (x + z * w)
beside-inner w h x z a b c d =
    rw (lt-ltb 0 x a, lt-ltb (z + 1) h b, lt-ltb (x + 1) w c, lt-ltb 0 z d)
    (four (omega arith) (omega (arith, suc-mul z w, ap (λ (n : ℕ). n * w) (add-one z))) (omega arith) (omega (arith, suc-mul (z - 1) w, ap (λ (n : ℕ). n * w) less)))
  where
    less : suc (z - 1) ≡ z
    less = omega arith

    four : {a b c d a' b' c' d' : ℕ} → a ≡ a' → b ≡ b' → c ≡ c' → d ≡ d' → ◌≡◌ {A = List ℕ} (a ∷ b ∷ c ∷ d ∷ []) (a' ∷ b' ∷ c' ∷ d' ∷ [])
    four p q r s = rw (p, q, r, s)

pub beside-around : (w h x z : ℕ) → 0 < x → z + 1 < h → x + 1 < w → 0 < z → beside w h (x + z * w) ≡ around w (x + z * w)
beside-around w h x z a b c d = beside_at_lem w h x z (omega arith) ∙ beside-inner w h x z a b c d

pub inner_below : (w h x z : ℕ) → 0 < x → z + 1 < h → x + 1 < w → 0 < z → (0 < x + z * w) × (w ≤ x + z * w) × (x + z * w + w < w * h) × (x + z * w + 1 < w * h)
inner_below w h x z a b c d =
    (omega arith, omega (arith, suc-mul (z - 1) w, ap (λ (n : ℕ). n * w) less), omega (arith, cell_below x (z + 1) w h (omega arith) b, suc-mul z w, ap (λ (n : ℕ). n * w) (add-one z)), omega (arith, cell_below (x + 1) z w h c (omega arith)))
  where
    less : suc (z - 1) ≡ z
    less = omega arith
