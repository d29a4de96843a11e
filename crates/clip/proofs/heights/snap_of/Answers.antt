-- `clip::heights::snap_of` meets its contract.
use mathlib.Core.Path.{◌≡◌, sym, ap, ◌∙◌}
use Prim.Native.Nat.{◌+◌, ◌<◌}
use native.Mathlib.Omega.{arith}
use lib.IntN.{ℤ}
use lib.Ieee.{Float, binary32, mul, of_bits}
use mir.Syntax.{w32}
use mir.ValLaws.{to_z-of_z}
use Rattle.ops.specs.Round.{floor_to, ceil_to}
use Rattle.clip.specs.Slices.{held_to}
use Rattle.clip.specs.Snap.{max_height, floor_of, ceiling_of}
use Rattle.clip.proofs.Snaps.{snap-above, snap-below, snap-top, snap-span, floor-le, ceiling-le}
use Rattle.clip.proofs.heights.snap_of.Goals as goal
use Rattle.clip.proofs.heights.snap_of.Goals.{After-held-ceiling, After-held-floor, Else-floor-eq-MAX_HEIGHT}

pub returns-then-high : goal.returns-then-high
unfolding of_bits
returns-then-high c = snap-above max_height _ _ _ _ _ _ _ _ c.if-high.true

pub returns-then-low-tall : goal.returns-then-low-tall
unfolding of_bits
returns-then-low-tall c = snap-below max_height _ _ _ _ _ _ _ _ c.if-high.false c.if-low-tall.true

floor-is : (c : After-held-floor) →
    let a = c.args in
    c.held-floor.result ≡ floor_of max_height a.lowest a.highest a.bottom a.tall a.inverse
unfolding of_bits floor_of
floor-is c =
    let a = c.args in
    c.held-floor.ensures
    ∙ ap (λ (z : ℤ). held_to 0 max_height z)
    (to_z-of_z w32 c.floor.result (record { sfits = c.floor.type_inv })
    ∙ c.floor.ensures
    ∙ ap (λ (y : Float). floor_to 31 (mul binary32 y a.inverse)) c.greater.ensures)

pub returns-then-floor-eq-MAX_HEIGHT : goal.returns-then-floor-eq-MAX_HEIGHT
unfolding of_bits
returns-then-floor-eq-MAX_HEIGHT c = snap-top max_height _ _ _ _ _ _ _ _ c.if-high.false c.if-low-tall.false (sym (floor-is c.before) ∙ c.if-floor-eq-MAX_HEIGHT.true)

below : (c : Else-floor-eq-MAX_HEIGHT) → c.held-floor.result < max_height
below c =
    let a = c.args in
    omega (arith, floor-is c.before, floor-le max_height a.lowest a.highest a.bottom a.tall a.inverse, c.if-floor-eq-MAX_HEIGHT.false)

pub overflow_add-floor : goal.overflow_add-floor
overflow_add-floor c = record { fits = omega (arith, below c.before.before) }

pub held-ceiling-requires : goal.held-ceiling-requires
held-ceiling-requires c = omega (arith, below c.before.before)

ceiling-is : (c : After-held-ceiling) →
    let a = c.args in
    c.held-ceiling.result ≡ ceiling_of max_height a.lowest a.highest a.bottom a.tall a.inverse
unfolding ceiling_of
ceiling-is c =
    let a = c.args in
    c.held-ceiling.ensures
    ∙ ap (λ (z : ℤ). held_to (c.held-floor.result + 1) max_height z)
    (to_z-of_z w32 c.ceil.result (record { sfits = c.ceil.type_inv })
    ∙ c.ceil.ensures
    ∙ ap (λ (y : Float). ceil_to 31 (mul binary32 y a.inverse)) c.lesser.ensures)
    ∙ rw (floor-is c.before.before.before.before)

pub overflow_cast-result : goal.overflow_cast-result
overflow_cast-result c = record { fits = omega (arith, below c.before.before.before) }

pub overflow_cast-result-2 : goal.overflow_cast-result-2
overflow_cast-result-2 c =
    let a = c.args in
    record { fits = omega (arith, ceiling-is c, ceiling-le max_height a.lowest a.highest a.bottom a.tall a.inverse (rw (← (floor-is c.before.before.before.before)) (below c.before.before.before))) }

pub returns : goal.returns
unfolding of_bits
returns c =
    rw (floor-is c.before.before.before.before, ceiling-is c)
    (snap-span max_height _ _ _ _ _ _ _ _ c.if-high.false c.if-low-tall.false (rw (← (floor-is c.before.before.before.before)) c.if-floor-eq-MAX_HEIGHT.false))
