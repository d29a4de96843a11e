-- Of a cell's part and of a row's: what it gives, by the numbers that code has of it, and how many insertions there can be.
use mathlib.Core.Path.{◌≡◌, sym}
use mathlib.Core.Bool.{Bool, true, false, ◌||◌, cond}
use mathlib.Core.List.{List, [], ◌∷◌, map}
use Prim.Native.Nat.{ℕ, ◌+◌, ◌-◌, ◌≤◌, ◌<◌}
use native.Mathlib.Numerals.{add-one}
use native.Mathlib.Omega.{arith}
use lib.Dec.{eqb}
use lib.IntN.{pos}
use lib.Signed.{lt_z, le_z}
use lib.ListN.{length}
use lib.Ieee.{Float}
use Rattle.grid.specs.declared.Corner.{Corner}
use Rattle.clip.specs.declared.cut.Axis.TheVariants.{X, Z}
use Rattle.clip.specs.declared.frame.Frame.{Frame}
use Rattle.clip.specs.Cut.{y_of}
use Rattle.clip.specs.Slices.{least_of, greatest_of, held_first, held_last}
use Rattle.clip.specs.Snap.{Snap, max_height, outside, floor_of, ceiling_of, snapped, snap_says, said_of}
use Rattle.clip.specs.Work.{insert as offer, stop, from_to, first_cell, last_cell, edge_at, cell_events, row_events, meets_of, triangle_events}
use Rattle.clip.proofs.Holds.{held-le}
use Rattle.clip.proofs.Snaps.{on_snap, snap-tells}
use Rattle.field.specs.Working.{numbered, turns_to}
use Rattle.field.proofs.Basics.{by-test}
use Rattle.field.proofs.Slicing.{from-to, from-to-most, slices-length}

-- ---- a cell

-- by what `snap_of` answered of its lowest and its highest y
pub cell-is : (f : Frame) (z x : ℕ) (part : List Corner) (low high : Float) → least_of (map y_of part) ≡ low → greatest_of (map y_of part) ≡ high
    → (r : Snap) → said_of r ≡ snap_says max_height low high f.grid.min.y f.tall f.rise
    → cell_events f z x part ≡ on_snap r [] (stop 7 ∷ []) (λ floor ceiling. offer x z floor ceiling ∷ [])
unfolding cell_events
cell-is f z x part low high el eh r says =
    rw (el, eh) (sym (snap-tells max_height low high f.grid.min.y f.tall f.rise r says [] (stop 7 ∷ []) (λ floor ceiling. offer x z floor ceiling ∷ [])))

snapped-one : (top : ℕ) (low high bottom tall rise : Float) (x z : ℕ) → length (snapped top low high bottom tall rise [] (stop 7 ∷ []) (λ floor ceiling. offer x z floor ceiling ∷ [])) ≤ 1
unfolding snapped
snapped-one top low high bottom tall rise x z =
    go (outside top low high bottom tall rise) (eqb (floor_of top low high bottom tall rise) top) (floor_of top low high bottom tall rise) (ceiling_of top low high bottom tall rise)
  where
    go : (a b : Bool) (floor ceiling : ℕ) → length (cond a [] (cond b (stop 7 ∷ []) (offer x z floor ceiling ∷ []))) ≤ 1
    go true b floor ceiling = omega arith
    go false true floor ceiling = omega arith
    go false false floor ceiling = omega arith

pub cell-one : (f : Frame) (z x : ℕ) (part : List Corner) → length (cell_events f z x part) ≤ 1
unfolding cell_events
cell-one f z x part = snapped-one max_height (least_of (map y_of part)) (greatest_of (map y_of part)) f.grid.min.y f.tall f.rise x z

-- ---- a row

module _ (f : Frame) (z : ℕ) (part : List Corner) where
  pub row-missed : lt_z (last_cell f X part) (pos 0) || le_z (pos f.width) (first_cell f X part) ≡ true → row_events f z part ≡ []
  unfolding row_events
  row-missed h = rw h

  -- its columns, counted from the one before the grid on
  pub row-turns : lt_z (last_cell f X part) (pos 0) || le_z (pos f.width) (first_cell f X part) ≡ false
      → (first last : ℕ) → numbered first ≡ held_first (f.width - 1) (first_cell f X part) → last ≡ held_last (f.width - 1) (last_cell f X part)
      → row_events f z part ≡ turns_to X (edge_at f X) (cell_events f z) (last + 1) first part
  unfolding row_events
  row-turns h first last e₁ e₂ = rw (h, ← e₁, ← e₂, from-to first last, ← add-one last)

  pub row-length : 0 < f.width → length (row_events f z part) ≤ f.width + 1
  unfolding row_events
  row-length some =
      by-test (lt_z (last_cell f X part) (pos 0) || le_z (pos f.width) (first_cell f X part)) (λ t. rw t (omega arith))
      (λ t.
      rw t
      (omega (
        arith,
        slices-length 1 (omega arith) (cell_events f z) (λ x cell. cell-one f z x cell) X (λ at. edge_at f X at) (from_to (held_first (f.width - 1) (first_cell f X part)) (held_last (f.width - 1) (last_cell f X part))) (held_first (f.width - 1) (first_cell f X part)) part,
        from-to-most (held_first (f.width - 1) (first_cell f X part)) (held_last (f.width - 1) (last_cell f X part)),
        held-le 0 (f.width - 1) (last_cell f X part) (omega arith),
      )))

-- ---- a triangle

module _ (f : Frame) (vs : List Corner) where
  pub triangle-missed : meets_of f vs ≡ false → triangle_events f vs ≡ []
  unfolding triangle_events
  triangle-missed h = rw h

  pub triangle-turns : meets_of f vs ≡ true
      → (first last : ℕ) → numbered first ≡ held_first (f.height - 1) (first_cell f Z vs) → last ≡ held_last (f.height - 1) (last_cell f Z vs)
      → triangle_events f vs ≡ turns_to Z (edge_at f Z) (row_events f) (last + 1) first vs
  unfolding triangle_events
  triangle-turns h first last e₁ e₂ = rw (h, ← e₁, ← e₂, from-to first last, ← add-one last)
