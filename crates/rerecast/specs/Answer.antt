-- What an answer says: the number and the values of the rules for each.
use Rattle.std.specs.Prelude.{[], ◌∷◌, ℕ, Float, Result, Ok, Err}
use Rattle.replies.specs.Said.{Said, whole, real, say, just}
use Rattle.rerecast.specs.declared.Stop.{Stop}
use Rattle.rerecast.specs.declared.Stop.TheVariants as stop
use Rattle.rerecast.specs.declared.Refusal.{Refusal}
use Rattle.rerecast.specs.declared.Refusal.TheVariants.{BadNumber, BoxOrder, GridSize, Slices, Unsound, OffGrid, Inverted, NoSlot, Layers, Crowded, SpansShort, NoVertex, Stopped}
use Rattle.grid.specs.declared.GridError.{GridError}
use Rattle.grid.specs.declared.GridError.TheVariants as grid

-- the number of a mesh that stopped
abbrev pub number_of : Stop → ℕ
number_of stop.NoSlot = 5
number_of stop.EighthVertex = 6
number_of stop.TooHigh = 7

abbrev pub refusal_says : Refusal → Said
refusal_says (BadNumber x) = say 1 (real x ∷ [])
refusal_says BoxOrder = just 2
refusal_says (GridSize w h) = say 3 (real w ∷ real h ∷ [])
refusal_says Slices = just 4
refusal_says Unsound = just 14
refusal_says OffGrid = just 8
refusal_says Inverted = just 9
refusal_says NoSlot = just 5
refusal_says (Layers layer top) = say 12 (whole layer ∷ real top ∷ [])
refusal_says Crowded = just 11
refusal_says SpansShort = just 15
refusal_says NoVertex = just 10
refusal_says (Stopped why t made) = say (number_of why) (whole t ∷ whole made ∷ [])

-- an accepted call says 0
abbrev pub said_of : Result Unit Refusal → Said
said_of (Ok done) = just 0
said_of (Err r) = refusal_says r

-- and `into_compact` with it where its box ends
abbrev pub told_of : Result Float Refusal → Said
told_of (Ok top) = say 0 (real top ∷ [])
told_of (Err r) = refusal_says r

-- what a grid is refused with is what the call is refused with
abbrev pub refused_by : GridError → Refusal
refused_by (grid.BadNumber x) = BadNumber x
refused_by grid.BoxOrder = BoxOrder
refused_by (grid.GridSize w h) = GridSize w h
