-- The replies of the grid's tests, each with what comes before it: 2 only where every number is inside its limits, 3 only where the corners are in order too.
use mathlib.Core.Path.{◌≡◌, refl, ◌∙◌}
use mathlib.Core.Bool.{true, false}
use mathlib.Core.List.{List, [], ◌∷◌}
use Rattle.replies.specs.Said.{Said, whole, real, say, just}
use Rattle.grid.specs.Grid.{Tested, numbers, first_outside, box_above, sized, width, height, width_float, height_float, size_says, grid_says}
use Rattle.grid.specs.declared.Grid.{Grid}

-- every number is inside its limits
abbrev pub Inside : List Tested → Type 0
Inside [] = Unit {0}
Inside (t ∷ ts) = (t.inside ≡ true) × Inside ts

pub all_pass : (ts : List Tested) (next : Said) → Inside ts → first_outside ts next ≡ next
unfolding first_outside
all_pass [] next h = refl
all_pass (t ∷ ts) next h = rw h.0 (all_pass ts next h.1)

module _ (g : Grid) (i : Inside (numbers g)) where
  pub says_two : box_above g ≡ true → grid_says g ≡ just 2
  unfolding grid_says
  says_two a = all_pass (numbers g) _ i ∙ rw a

  pub says_three : box_above g ≡ false → sized g ≡ false → grid_says g ≡ say 3 (real (width_float g) ∷ real (height_float g) ∷ [])
  unfolding grid_says size_says
  says_three a b = all_pass (numbers g) _ i ∙ rw (a, b)

  pub says-zero : box_above g ≡ false → sized g ≡ true → grid_says g ≡ say 0 (whole (width g) ∷ whole (height g) ∷ [])
  unfolding grid_says size_says
  says-zero a b = all_pass (numbers g) _ i ∙ rw (a, b)
