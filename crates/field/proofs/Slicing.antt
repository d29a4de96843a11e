-- Of rows and columns cut one after the other, counted as loops count them: what one turn takes off, what is left at the end, and how many insertions
-- there can be.
use mathlib.Core.Path.{◌≡◌, refl, ◌∙◌}
use mathlib.Core.Bool.{Bool, true, false, ◌&&◌, cond}
use mathlib.Core.List.{List, [], ◌∷◌}
use Prim.Native.Nat.{ℕ, zero, suc, ◌+◌, ◌-◌, ◌*◌, ◌≤◌, ◌<◌}
use native.Mathlib.Numerals.{add-one}
use native.Mathlib.Omega.{arith}
use lib.Dec.{ltb}
use lib.IntN.{ℤ, pos, negsuc, suc_ℤ, suc-pred}
use lib.ListN.{length}
use lib.Ieee.{Float}
use borrow.Author.Tests.{lt-ltb, le-ltb, le-leb}
use Rattle.grid.specs.declared.Corner.{Corner}
use Rattle.clip.specs.declared.cut.Axis.{Axis}
use Rattle.clip.specs.Cut.{Cut, parts, eighth, fitting, first_of, second_of, cut_of, slice_cut}
use Rattle.clip.specs.Work.{Event, insert as offer, stop, and_then, on_cut, slices, within, from_to}
use Rattle.field.specs.Working.{numbered, turn_events, turns_to}
use Rattle.field.proofs.Basics.{by-test}

-- ---- one turn

module _ (axis : Axis) (edge : ℤ → Float) (gives : ℕ → List Corner → List Event) where
  next : (last k : ℕ) (vs : List Corner) → k ≤ last
      → turns_to axis edge gives last k vs ≡ on_cut (cut_of axis (edge (numbered k)) vs) (λ part. within gives (numbered k) part) (λ more. turns_to axis edge gives last (k + 1) more)
  unfolding slices
  next last k vs h =
      let e : suc last - k ≡ suc (suc last - (k + 1)) = omega arith in
      rw (e, add-one k, suc-pred (pos k))

  -- the cut's part is taken off, or the cut stops the work
  pub turns-turn : (last k : ℕ) (vs : List Corner) → length vs ≤ 7 → k ≤ last
      → turns_to axis edge gives last k vs
      ≡ and_then (turn_events (slice_cut axis (edge (numbered k)) vs) gives k) (turns_to axis edge gives last (k + 1) (second_of axis (edge (numbered k)) vs))
  unfolding slice_cut cut_of and_then
  turns-turn last k vs few inside =
      let first = first_of axis (edge (numbered k)) vs in
      let second = second_of axis (edge (numbered k)) vs in
      next last k vs inside ∙ rw (le-leb (length vs) 7 few) (go first second (fitting first && fitting second))
    where
      go : (first second : List Corner) (b : Bool)
          → on_cut (cond b (parts first second) eighth) (λ part. within gives (numbered k) part) (λ more. turns_to axis edge gives last (k + 1) more)
          ≡ and_then (turn_events (cond b (parts first second) eighth) gives k) (turns_to axis edge gives last (k + 1) second)
      go first second true = refl
      go first second false = refl

  pub turns-end : (last k : ℕ) (vs : List Corner) → last < k → turns_to axis edge gives last k vs ≡ []
  unfolding slices
  turns-end last k vs h =
      let e : suc last - k ≡ 0 = omega arith in
      rw e

-- ---- what one turn gives

module _ (gives : ℕ → List Corner → List Event) where
  pub turn-before : (k : ℕ) (vs : List Corner) → k ≡ 0 → within gives (numbered k) vs ≡ []
  turn-before k vs e = rw e

  pub turn-few : (k : ℕ) (vs : List Corner) → length vs < 3 → within gives (numbered k) vs ≡ []
  turn-few zero vs h = refl
  turn-few (suc k) vs h = rw (lt-ltb (length vs) 3 h)

  pub turn-part : (k : ℕ) (vs : List Corner) → 0 < k → 3 ≤ length vs → within gives (numbered k) vs ≡ gives (k - 1) vs
  turn-part zero vs p h = absurd (omega arith)
  turn-part (suc k) vs p h =
      let e : suc k - 1 ≡ k = omega arith in
      rw (le-ltb (length vs) 3 h, e)

-- ---- from the first to the last, counted from the one before the grid on

pub from-to : (first last : ℕ) → from_to (numbered first) last ≡ suc (suc last) - first
from-to zero last = omega arith
from-to (suc first) last = omega arith

pub from-to-most : (first : ℤ) (last : ℕ) → from_to first last ≤ last + 2
from-to-most (pos first) last = omega arith
from-to-most (negsuc n) last = omega arith

-- ---- how much there can be

pub then-length : (a b : List Event) → length (and_then a b) ≤ length a + length b
unfolding and_then
then-length [] b = omega arith
then-length (stop reply ∷ a) b = omega arith
then-length (offer x z floor ceiling ∷ a) b = omega (arith, then-length a b)

module _ (most : ℕ) (some : 1 ≤ most) (gives : ℕ → List Corner → List Event) (each : (at : ℕ) (part : List Corner) → length (gives at part) ≤ most) where
  pub within-length : (at : ℤ) (part : List Corner) → length (within gives at part) ≤ most
  within-length (negsuc n) part = omega arith
  within-length (pos n) part = by-test (ltb (length part) 3) (λ t. rw t (omega arith)) (λ t. rw t (each n part))

  pub turn-length : (c : Cut) (k : ℕ) → length (turn_events c gives k) ≤ most
  turn-length (parts part rest) k = within-length (numbered k) part
  turn-length eighth k = some

  cut-length : (c : Cut) (at : ℤ) (m : ℕ) (more : List Corner → List Event) → ((rest : List Corner) → length (more rest) ≤ m) → length (on_cut c (λ part. within gives at part) more) ≤ most + m
  cut-length (parts first second) at m more h = omega (arith, then-length (within gives at first) (more second), within-length at first, h second)
  cut-length eighth at m more h = omega arith

  pub slices-length : (axis : Axis) (edge : ℤ → Float) (count : ℕ) (at : ℤ) (vs : List Corner) → length (slices axis edge (λ at part. within gives at part) count at vs) ≤ count * most
  unfolding slices
  slices-length axis edge zero at vs = omega arith
  slices-length axis edge (suc count) at vs =
      omega (arith, cut-length (cut_of axis (edge at) vs) at (count * most) (λ more. slices axis edge (λ at part. within gives at part) count (suc_ℤ at) more) (λ rest. slices-length axis edge count (suc_ℤ at) rest))
