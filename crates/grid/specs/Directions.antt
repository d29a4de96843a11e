-- The four directions on a grid, and where a step in each leads (docs/RULES.md, "What is ported"). Definitions only.
-- Columns are numbered row by row: the one at x, z of a grid `w` columns wide is x + z * w.
use Rattle.std.specs.Prelude.{◌≡◌, Bool, true, false, ℕ, zero, suc, ◌+◌, ◌-◌, ◌<◌, ltb, Option, Some, None, Result, Ok, Err}
use Rattle.grid.specs.declared.directions.Direction.{Direction}
use Rattle.grid.specs.declared.directions.Direction.TheVariants.{West, North, East, South}
use Rattle.grid.specs.declared.directions.NoDirection.{NoDirection}

-- in direction 0 x falls by one, in 1 z rises, in 2 x rises, in 3 z falls
abbrev pub step_x : ℕ → ℕ → ℕ
step_x zero x = x - 1
step_x (suc zero) x = x
step_x (suc (suc zero)) x = x + 1
step_x (suc (suc (suc d))) x = x

abbrev pub step_z : ℕ → ℕ → ℕ
step_z zero z = z
step_z (suc zero) z = z + 1
step_z (suc (suc zero)) z = z
step_z (suc (suc (suc d))) z = z - 1

-- the step does not leave a grid of w × h
abbrev pub stays : ℕ → ℕ → ℕ → ℕ → ℕ → Bool
stays w h zero x z = ltb 0 x
stays w h (suc zero) x z = ltb (z + 1) h
stays w h (suc (suc zero)) x z = ltb (x + 1) w
stays w h (suc (suc (suc d))) x z = ltb 0 z

-- ---- in the code

-- the number of each
abbrev pub number_of : Direction → ℕ
number_of West = 0
number_of North = 1
number_of East = 2
number_of South = 3

-- a number names the direction that has it, and none above 3
abbrev pub Names : ℕ → Result Direction NoDirection → Type 0
Names n (Ok d) = number_of d ≡ n
Names n (Err e) = 3 < n

-- where a step in a direction leads, if it does not leave a grid of w × h
abbrev pub StepsTo : Option (ℕ × ℕ) → ℕ → ℕ → ℕ → ℕ → ℕ → Type 0
StepsTo (Some p) w h d x z = (stays w h d x z ≡ true) × ((p.0 ≡ step_x d x) × (p.1 ≡ step_z d z))
StepsTo None w h d x z = stays w h d x z ≡ false
