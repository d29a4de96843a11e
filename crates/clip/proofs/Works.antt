-- Of a triangle's work: one slice after the other, and that every insertion lies inside the grid and a stop ends the list.
use mathlib.Core.Path.{◌≡◌, refl, ap}
use mathlib.Core.Logic.{◌⊎◌, inl, inr}
use mathlib.Core.Bool.{Bool, true, false, ◌||◌, cond}
use mathlib.Core.List.{List, [], ◌∷◌, map}
use Prim.Native.Nat.{ℕ, zero, suc, ◌+◌, ◌-◌, ◌≤◌, ◌<◌}
use native.Mathlib.Omega.{arith}
use lib.Dec.{ltb}
use lib.ListN.{length}
use lib.IntN.{ℤ, pos, negsuc, suc_ℤ}
use lib.Signed.{lt_z, le_z}
use lib.Ieee.{Float}
use borrow.Author.Tests.{lt-ltb, le-ltb}
use Rattle.grid.specs.declared.Corner.{Corner}
use Rattle.clip.specs.declared.cut.Axis.{Axis}
use Rattle.clip.specs.declared.cut.Axis.TheVariants.{X, Z}
use Rattle.clip.specs.declared.frame.Frame.{Frame}
use Rattle.clip.specs.Cut.{y_of, Cut, parts, eighth, cut_of}
use Rattle.clip.specs.Slices.{least_of, greatest_of, held_first, held_last}
use Rattle.clip.specs.Snap.{max_height}
use Rattle.clip.specs.Work.{Event, insert, stop, and_then, on_cut, slices, within, from_to, cells, first_cell, last_cell, edge_at, sliced, cell_events, row_events, meets_of, triangle_events}
use Rattle.clip.proofs.Holds.{held-le}
use Rattle.clip.proofs.Snaps.{snapped-all}

-- ---- work in three steps
pub and_then-assoc : (a b c : List Event) → and_then (and_then a b) c ≡ and_then a (and_then b c)
unfolding and_then
and_then-assoc [] b c = refl
and_then-assoc (insert x z floor ceiling ∷ es) b c = ap (λ (l : List Event). insert x z floor ceiling ∷ l) (and_then-assoc es b c)
and_then-assoc (stop n ∷ es) b c = refl

-- ---- the next slice, by what its cut replies
module _ (axis : Axis) (edge : ℤ → Float) (gives : ℤ → List Corner → List Event) (count : ℕ) (at : ℤ) (rest : List Corner) where
  pub slices-stop : cut_of axis (edge at) rest ≡ eighth → slices axis edge gives (suc count) at rest ≡ stop 6 ∷ []
  unfolding slices
  slices-stop e = rw e

  pub slices-next : (part more : List Corner) → cut_of axis (edge at) rest ≡ parts part more
      → slices axis edge gives (suc count) at rest ≡ and_then (gives at part) (slices axis edge gives count (suc_ℤ at) more)
  unfolding slices
  slices-next part more e = rw e

-- ---- what a part gives, by how many vertices it has
pub within-few : (gives : ℕ → List Corner → List Event) (n : ℕ) (part : List Corner) → length part < 3 → within gives (pos n) part ≡ []
within-few gives n part h = rw (lt-ltb (length part) 3 h)

pub within-some : (gives : ℕ → List Corner → List Event) (n : ℕ) (part : List Corner) → 3 ≤ length part → within gives (pos n) part ≡ gives n part
within-some gives n part h = rw (le-ltb (length part) 3 h)

-- ---- insertions inside a grid of so many columns and rows, with a stop by 6 or 7 at the end if there is one
pub record Inside (width height x z floor ceiling : ℕ) : Type 0 where
  pub column : x < width
  pub row : z < height
  pub some-height : floor < ceiling
  pub not-too-high : ceiling ≤ max_height

abbrev pub Proper : ℕ → ℕ → List Event → Type 0
Proper width height [] = Unit {0}
Proper width height (insert x z floor ceiling ∷ es) = Inside width height x z floor ceiling × Proper width height es
Proper width height (stop n ∷ es) = ((n ≡ 6) ⊎ (n ≡ 7)) × (es ≡ [])

-- ---- `count` slices from number `at` on that end before number `cells`
abbrev Bound : ℤ → ℕ → ℕ → Type 0
Bound (pos k) count cells = k + count ≤ cells
Bound (negsuc k) count cells = count ≤ cells + suc k

bound-next : (at : ℤ) (count cells : ℕ) → Bound at (suc count) cells → Bound (suc_ℤ at) count cells
bound-next (pos k) count cells h = omega arith
bound-next (negsuc zero) count cells h = omega arith
bound-next (negsuc (suc k)) count cells h = omega arith

bound-held : (cells : ℕ) (first last : ℤ) → 0 < cells → Bound (held_first (cells - 1) first) (from_to (held_first (cells - 1) first) (held_last (cells - 1) last)) cells
unfolding held_first
bound-held cells (pos n) last h = omega (arith, held-le 0 (cells - 1) last (omega arith))
bound-held cells (negsuc n) last h = omega (arith, held-le 0 (cells - 1) last (omega arith))

module _ (width height : ℕ) where
  then-proper : (a b : List Event) → Proper width height a → Proper width height b → Proper width height (and_then a b)
  unfolding and_then
  then-proper [] b p q = q
  then-proper (insert x z floor ceiling ∷ es) b p q = (p.0, then-proper es b p.1 q)
  then-proper (stop n ∷ es) b p q = (p.0, refl)

  few-proper : (few : Bool) (es : List Event) → Proper width height es → Proper width height (cond few [] es)
  few-proper true es h = tt
  few-proper false es h = h

  module _ (axis : Axis) (edge : ℤ → Float) (gives : ℕ → List Corner → List Event) (cells : ℕ) (given : (n : ℕ) (part : List Corner) → n < cells → Proper width height (gives n part)) where
    within-proper : (at : ℤ) (count : ℕ) (part : List Corner) → Bound at (suc count) cells → Proper width height (within gives at part)
    within-proper (pos n) count part h = few-proper (ltb (length part) 3) (gives n part) (given n part (omega arith))
    within-proper (negsuc n) count part h = tt

    cut-proper : (cut : Cut) (at : ℤ) (count : ℕ) (rest : List Corner → List Event) → Bound at (suc count) cells
        → ((more : List Corner) → Proper width height (rest more)) → Proper width height (on_cut cut (λ part. within gives at part) rest)
    cut-proper (parts part more) at count rest h k = then-proper (within gives at part) (rest more) (within-proper at count part h) (k more)
    cut-proper eighth at count rest h k = (inl refl, refl)

    slices-proper : (count : ℕ) (at : ℤ) (rest : List Corner) → Bound at count cells → Proper width height (slices axis edge (λ at part. within gives at part) count at rest)
    unfolding slices
    slices-proper zero at rest h = tt
    slices-proper (suc count) at rest h =
        cut-proper (cut_of axis (edge at) rest) at count (λ more. slices axis edge (λ at part. within gives at part) count (suc_ℤ at) more) h
        (λ more. slices-proper count (suc_ℤ at) more (bound-next at count cells h))

-- ---- every triangle's work is proper
module _ (f : Frame) (wide : 0 < f.width) (high : 0 < f.height) where
  sliced-proper : (axis : Axis) → 0 < cells f axis → (gives : ℕ → List Corner → List Event) → ((n : ℕ) (part : List Corner) → n < cells f axis → Proper f.width f.height (gives n part))
      → (vs : List Corner) → Proper f.width f.height (sliced f axis gives vs)
  sliced-proper axis some gives given vs =
      slices-proper f.width f.height axis (λ at. edge_at f axis at) gives (cells f axis) given _ _ vs (bound-held (cells f axis) (first_cell f axis vs) (last_cell f axis vs) some)

  cell-proper : (z x : ℕ) (part : List Corner) → z < f.height → x < f.width → Proper f.width f.height (cell_events f z x part)
  unfolding cell_events
  cell-proper z x part hz hx =
      snapped-all max_height (least_of (map y_of part)) (greatest_of (map y_of part)) f.grid.min.y f.tall f.rise (λ es. Proper f.width f.height es)
      tt
      (inr refl, refl)
      (λ floor ceiling h k. (record { column = hx; row = hz; some-height = h; not-too-high = k }, tt))

  row-proper : (z : ℕ) (part : List Corner) → z < f.height → Proper f.width f.height (row_events f z part)
  unfolding row_events
  row-proper z part h =
      few-proper f.width f.height (lt_z (last_cell f X part) (pos 0) || le_z (pos f.width) (first_cell f X part)) (sliced f X (λ x cell. cell_events f z x cell) part)
      (sliced-proper X wide (λ x cell. cell_events f z x cell) (λ x cell k. cell-proper z x cell h k) part)

  pub triangle-proper : (vs : List Corner) → Proper f.width f.height (triangle_events f vs)
  unfolding triangle_events
  triangle-proper vs = go (meets_of f vs)
    where
      go : (met : Bool) → Proper f.width f.height (cond met (sliced f Z (λ z row. row_events f z row) vs) [])
      go true = sliced-proper Z high (λ z row. row_events f z row) (λ z row k. row-proper z row k) vs
      go false = tt
