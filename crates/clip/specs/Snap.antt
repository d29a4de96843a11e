-- The snap of a cell's part to whole heights, with reply 7 (the rules, "Triangles to spans"). Definitions only.
use Rattle.std.specs.Prelude.{ℕ, ◌+◌, Bool, ◌||◌, cond, [], ◌∷◌, eqb, Float, Option, Some, None, Result, Ok, Err}
use Rattle.std.specs.Float.{binary32}
use Rattle.std.specs.Float.Ieee.{lt, sub, mul}
use Rattle.replies.specs.Said.{Said, whole, say, just}
use Rattle.ops.specs.Round.{floor_to, ceil_to}
use Rattle.ops.specs.Order.{lesser_of, greater_of}
use Rattle.clip.specs.Cut.{nought}
use Rattle.clip.specs.Slices.{held_to}
use Rattle.clip.specs.declared.heights.Heights.{Heights}
use Rattle.clip.specs.declared.heights.TooHigh.{TooHigh}

-- the largest height
abbrev pub max_height : ℕ
max_height = 65535

-- ---- of the lowest and the highest y of a part, in a box from `bottom` on that is `tall`, with cells of height 1 / inverse
module _ (largest : ℕ) (lowest highest bottom tall inverse : Float) where
  abbrev pub low : Float
  low = sub binary32 lowest bottom

  abbrev pub high : Float
  high = sub binary32 highest bottom

  abbrev pub outside : Bool
  outside = lt high nought || lt tall low

  -- low and high are held to the box first
  unfoldable pub floor_of : ℕ
  floor_of = held_to 0 largest (floor_to 31 (mul binary32 (greater_of low nought) inverse))

  unfoldable pub ceiling_of : ℕ
  ceiling_of = held_to (floor_of + 1) largest (ceil_to 31 (mul binary32 (lesser_of high tall) inverse))

  -- what is given outside the box, at the largest floor, and for a floor and a ceiling
  unfoldable pub snapped : {A : Type 0} → A → A → (ℕ → ℕ → A) → A
  snapped nothing atTop span = cond outside nothing (cond (eqb floor_of largest) atTop (span floor_of ceiling_of))

  abbrev pub snap_says : Said
  snap_says = snapped (just 0) (just 7) (λ floor ceiling. say 0 (whole floor ∷ whole ceiling ∷ []))

abbrev pub Snap : Type 0
Snap = Result (Option Heights) TooHigh

abbrev pub said_of : Snap → Said
said_of (Ok None) = just 0
said_of (Ok (Some h)) = say 0 (whole h.floor ∷ whole h.ceiling ∷ [])
said_of (Err e) = just 7
