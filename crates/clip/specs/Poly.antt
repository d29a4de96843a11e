-- Polygons by value: up to 7 vertices in an array, and what `divide_poly` answers; a part that is written down, up to 14. Definitions only.
use Rattle.std.specs.Prelude.{◌≡◌, refl, ℕ, cond, List, [], leb, length, take, replicate, Float, Result, Ok, Err}
use Rattle.std.proofs.lemmas.List.Edits.{sets}
use Rattle.replies.specs.Said.{Said, just}
use Rattle.grid.specs.declared.Corner.{Corner}
use Rattle.clip.specs.declared.cut.Axis.{Axis}
use Rattle.clip.specs.declared.cut.EighthVertex.{EighthVertex}
use Rattle.clip.specs.declared.poly.Vertices.{Vertices}
use Rattle.clip.specs.declared.poly.Parts.{Parts}
use Rattle.clip.specs.Cut.{nought, most_vertices, Cut, parts, eighth, cut_of, cut_says}

-- what a polygon holds
abbrev pub held : {room : ℕ} → Vertices room → List Corner
held p = take p.n p.at

-- the polygon of some vertices, with room for so many; past them every entry is 0
abbrev pub origin : Corner
origin = record { x = nought; y = nought; z = nought }

abbrev pub vertices_in : (room : ℕ) → List Corner → Vertices room
vertices_in room vs = record { at = sets (replicate room origin) 0 vs; n = length vs }

abbrev pub poly_of : List Corner → Vertices 7
poly_of vs = vertices_in most_vertices vs

-- a polygon that names more than 7 vertices is refused as one whose cut would write an eighth
unfoldable pub poly_cut : Axis → Float → Vertices 7 → Cut
poly_cut axis offset p = cond (leb p.n most_vertices) (cut_of axis offset (held p)) eighth

-- ---- the answer: what it says, whatever it carries where it accepts, and both parts
abbrev pub said_of : {T : Type 0} → Result T EighthVertex → Said
said_of (Ok p) = just 0
said_of (Err e) = just 6

abbrev pub PartsAre : Cut → Result Parts EighthVertex → Type 0
PartsAre (parts first second) (Ok p) = (p.first ≡ poly_of first) × (p.second ≡ poly_of second)
PartsAre (parts first second) (Err e) = ⊥
PartsAre eighth (Ok p) = ⊥
PartsAre eighth (Err e) = Unit {0}

pub record Answers (cut : Cut) (r : Result Parts EighthVertex) : Type 0 where
  pub said : said_of r ≡ cut_says cut
  pub parts-are : PartsAre cut r

-- ---- a part that is written down: what it is with other vertices from its first place on
abbrev pub polygon_of : Vertices 14 → List Corner → Vertices 14
polygon_of p vs = record { at = sets p.at 0 vs; n = length vs }

-- until it has all its vertices, it still has as many as it had
abbrev pub polygon_holding : Vertices 14 → List Corner → Vertices 14
polygon_holding p vs = record { at = sets p.at 0 vs; n = p.n }

pub polygon_none : (p : Vertices 14) → p ≡ polygon_holding p []
polygon_none p = refl
