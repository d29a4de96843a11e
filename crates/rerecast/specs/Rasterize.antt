-- What the answers of the rasteriser's inner functions mean. No public contract cites this file.
use Rattle.std.specs.Prelude.{◌≡◌, Bool, true, false, List, [], ◌∷◌, ℕ, ◌-◌, ◌*◌, ◌<◌, ◌≤◌, length, Float, Result, Ok, Err}
use Rattle.grid.specs.declared.Corner.{Corner}
use Rattle.clip.specs.declared.cut.Axis.{Axis}
use Rattle.clip.specs.declared.frame.Frame.{Frame}
use Rattle.clip.specs.Cut.{second_of}
use Rattle.clip.specs.Work.{Event, stop, within}
use Rattle.field.specs.Slots.{Slots}
use Rattle.field.specs.Field.{Field, Holds}
use Rattle.field.specs.Carrying.{Meshed, says_of, leaves, Work, carry}
use Rattle.field.specs.Working.{Remains, numbered}
use Rattle.rerecast.specs.declared.turns.Job.{Job}
use Rattle.rerecast.specs.declared.turns.Halt.{Halt}
use Rattle.rerecast.specs.declared.Refusal.{Refusal}
use Rattle.rerecast.specs.Answer.{number_of, said_of}

-- how many insertions were made, and what is left of the work: nothing, or its stop
abbrev pub made_by : Result ℕ Halt → ℕ
made_by (Ok made) = made
made_by (Err halt) = halt.made

abbrev pub left_by : Result ℕ Halt → List Event
left_by (Ok made) = []
left_by (Err halt) = stop (number_of halt.why) ∷ []

-- The work `es` on the field `f`, with `made` insertions before it, went as the step says, and the store holds the field that it leaves.
abbrev pub Carries : Job → ℕ → Field → List Event → Result ℕ Halt → List ℕ → Slots → Type 0
Carries job made f es r heads t =
    Remains job.frame.width job.threshold job.area (carry job.frame.width job.threshold job.area made f es) (made_by r) (left_by r) heads t

-- the same of a triangle's whole work
abbrev pub Worked : Frame → ℕ → Work → Field → Result ℕ Halt → List ℕ → Slots → Type 0
Worked frame threshold w f r heads t = Remains frame.width threshold w.area (carry frame.width threshold w.area 0 f w.events) (made_by r) (left_by r) heads t

-- a mesh came to `o`: its answer says so, and the store holds the field that it leaves
pub record MeshWorked (o : Meshed) (r : Result Unit Refusal) (heads : List ℕ) (t : Slots) : Type 0 where
  pub says : said_of r ≡ says_of o
  pub holds : Holds heads t (leaves o)

-- what row or column k gives of a part with n vertices: nothing, or what the part gives
abbrev pub Judged : Bool → ℕ → ℕ → Type 0
Judged true n k = (gives : ℕ → List Corner → List Event) (vs : List Corner) → length vs ≡ n → within gives (numbered k) vs ≡ []
Judged false n k = (0 < k) × ((gives : ℕ → List Corner → List Event) (vs : List Corner) → length vs ≡ n → within gives (numbered k) vs ≡ gives (k - 1) vs)

-- where a step went on, what remains of a polygon is what lies behind the cut, and it can be cut again
abbrev pub CutsOff : Axis → Float → List Corner → List Corner → Result ℕ Halt → Type 0
CutsOff axis offset vs rest (Ok made) = (rest ≡ second_of axis offset vs) × (length rest ≤ 7)
CutsOff axis offset vs rest (Err halt) = Unit {0}

-- a width and a height within their limits
pub record Sides (w h : ℕ) : Type 0 where
  pub some-wide : 0 < w
  pub wide : w ≤ 4096
  pub some-high : 0 < h
  pub high : h ≤ 4096
  pub few : w * h ≤ 1048576

-- a frame within its limits, and a head for each of its columns
pub record Ready (f : Frame) (heads : List ℕ) : Type 0 where
  pub sides : Sides f.width f.height
  pub all : length heads ≡ f.width * f.height
