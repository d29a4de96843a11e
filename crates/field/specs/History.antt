-- Calls one after another on one grid and one store, from a fresh field on, and the spans that they put into it.
use Rattle.std.specs.Prelude.{◌≡◌, cond, List, [], ◌∷◌, ◌++◌, ℕ, zero, suc, ◌+◌, ◌*◌, length, eqb}
use Rattle.replies.specs.Said.{Value, whole, real, Said, just}
use Rattle.grid.specs.declared.Grid.{Grid}
use Rattle.grid.specs.Grid.{width, height}
use Rattle.clip.specs.Work.{Event, insert as offer, stop, frame_of}
use Rattle.field.specs.declared.Span.{Span}
use Rattle.field.specs.Spans.{Range, range}
use Rattle.field.specs.Slots.{Slots}
use Rattle.field.specs.Field.{Field, ranges, length_in}
use Rattle.field.specs.Stretches.{In, Shares}
use Rattle.field.specs.Store.{Store, Outcome}
use Rattle.field.specs.Calls.{made, Freshened, Added}
use Rattle.field.specs.Filters.{low_obstacles, ledges, low_ceilings, Filtered}
use Rattle.field.specs.Carrying.{Work}
use Rattle.field.specs.Meshes.{Mesh, work_of, Rasterized}
use Rattle.field.specs.Populate.{Populated}

-- a call that changes a field, with all that it is given besides the grid and the store; one triangle is a mesh of one
pub data Call : Type 0 where
  add_span : (x z : ℕ) → Span → (threshold : ℕ) → Call
  filter_low_obstacles : (climb : ℕ) → Call
  filter_ledges : (tall climb : ℕ) → Call
  filter_low_ceilings : (tall : ℕ) → Call
  rasterize_triangles : Mesh → (threshold : ℕ) → Call
  populate_from_trimesh : Mesh → (tall climb : ℕ) → Call

-- what its contract says of its outcome
abbrev pub Does : Grid → Call → Store → Outcome → Type 0
Does g (add_span x z new threshold) s = Added g x z new threshold s
Does g (filter_low_obstacles climb) s = Filtered g (low_obstacles climb) s
Does g (filter_ledges tall climb) s = Filtered g (ledges (width g) (height g) tall climb) s
Does g (filter_low_ceilings tall) s = Filtered g (low_ceilings tall) s
Does g (rasterize_triangles m threshold) s = Rasterized g m threshold s
Does g (populate_from_trimesh m tall climb) s = Populated g m tall climb s

-- a call that was made, and what it answered
pub record Step : Type 0 where
  pub call : Call
  pub said : Said

-- The calls made from store `s` on, the last one first, each on the store that the one before it left.
pub data History (g : Grid) (s : Store) : List Step → Store → Type 0 where
  start : History g s [] s
  then : {steps : List Step} {t : Store} → History g s steps t → (call : Call) (o : Outcome) → Does g call t o → History g s (record { call = call; said = o.said } ∷ steps) o.store

-- the store as an accepted call for a fresh field left it, with a mark for each slot
pub record Begins (g : Grid) (s : Store) : Type 0 where
  pub heads₀ : List ℕ
  pub slots₀ : Slots
  pub fresh : Freshened g heads₀ slots₀ (made (just 0) s.heads s.slots)
  pub marked : length s.marks ≡ length s.slots.nexts

-- ---- what was accepted

-- a span that a call put into the field, and the column
pub record Placed : Type 0 where
  pub column : ℕ
  pub span : Span

-- A mesh offers its spans one by one. On a grid `w` cells wide, its triangles' work being `works`:
module _ (w : ℕ) (works : ℕ → Work) where
  -- the first n insertions among a triangle's events, put in one after another: the last comes first
  abbrev pub put_in : ℕ → ℕ → List Event → List Placed → List Placed
  put_in area zero es ps = ps
  put_in area (suc n) [] ps = ps
  put_in area (suc n) (stop reply ∷ es) ps = ps
  put_in area (suc n) (offer x z floor ceiling ∷ es) ps =
      put_in area n es (record { column = x + z * w; span = record { floor = floor; ceiling = ceiling; area = area } } ∷ ps)

  -- all of the first t triangles
  abbrev pub put_all : ℕ → List Placed
  put_all zero = []
  put_all (suc t) = put_in (works t).area (length (works t).events) (works t).events (put_all t)

  -- By the reply's number and values: all of `count` triangles; at a stop those before the triangle named, and as many of that one's as were made.
  -- Any other refusal puts in none.
  abbrev pub put_said : ℕ → ℕ → List Value → List Placed
  put_said count number [] = cond (eqb number 0) (put_all count) []
  put_said count number (whole t ∷ whole made ∷ []) = put_in (works t).area made (works t).events (put_all t)
  put_said count number (whole t ∷ whole made ∷ v ∷ vs) = []
  put_said count number (whole t ∷ real x ∷ vs) = []
  put_said count number (whole t ∷ []) = []
  put_said count number (real x ∷ vs) = []

abbrev pub put_by_mesh : Grid → Mesh → Said → List Placed
put_by_mesh g m said = put_said (width g) (work_of (frame_of g (width g) (height g)) m) (length m.areas) said.number said.values

-- those of one call, the last first: a filter puts in none
abbrev pub placed_by : Grid → Call → Said → List Placed
placed_by g (add_span x z new threshold) said = cond (eqb said.number 0) (record { column = x + z * width g; span = new } ∷ []) []
placed_by g (filter_low_obstacles climb) said = []
placed_by g (filter_ledges tall climb) said = []
placed_by g (filter_low_ceilings tall) said = []
placed_by g (rasterize_triangles m threshold) said = put_by_mesh g m said
placed_by g (populate_from_trimesh m tall climb) said = put_by_mesh g m said

-- the spans in column `i`
abbrev pub in_column : ℕ → List Placed → List Span
in_column i [] = []
in_column i (p ∷ ps) = cond (eqb p.column i) (p.span ∷ in_column i ps) (in_column i ps)

-- the spans that were accepted in column `i`, the last first
abbrev pub accepted_in : Grid → ℕ → List Step → List Span
accepted_in g i [] = []
accepted_in g i (c ∷ cs) = in_column i (placed_by g c.call c.said) ++ accepted_in g i cs

-- ---- no room

-- a span shares no height with column `i` of the field, and the spans of all its columns together fill `n` slots
pub record Full (f : Field) (i : ℕ) (new : Span) (n : ℕ) : Type 0 where
  pub apart : (r : Range) → In r (ranges f i) → Shares (range new) r → ⊥
  pub fill : length_in f.columns ≡ n
