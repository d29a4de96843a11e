-- The cut of a polygon, a list of vertices, along x or z (the rules, "Triangles to spans"). Definitions only.
use Rattle.std.specs.Prelude.{ℕ, Bool, false, ◌&&◌, cond, List, [], ◌∷◌, ◌++◌, leb, length, pos, Float, Result, Ok, Err}
use Rattle.std.specs.Bool.{beq}
use Rattle.std.specs.Float.{fin, binary32}
use Rattle.std.specs.Float.Ieee.{le, lt, add, sub, mul, div}
use Rattle.replies.specs.Said.{Said, just}
use Rattle.grid.specs.declared.Corner.{Corner}
use Rattle.clip.specs.declared.cut.Axis.{Axis}
use Rattle.clip.specs.declared.cut.Axis.TheVariants.{X, Z}
use Rattle.clip.specs.declared.cut.EighthVertex.{EighthVertex}

abbrev pub nought : Float
nought = fin false 0 (pos 0)

abbrev pub x_of : Corner → Float
x_of v = v.x

abbrev pub y_of : Corner → Float
y_of v = v.y

abbrev pub z_of : Corner → Float
z_of v = v.z

abbrev pub along : Axis → Corner → Float
along X v = x_of v
along Z v = z_of v

-- d at a vertex: positive before the cut, negative behind it
abbrev pub distance : Axis → Float → Corner → Float
distance axis offset v = sub binary32 offset (along axis v)

-- ---- the crossing point of an edge from b to a, where d is db and da
abbrev pub toward : Float → Float → Float → Float
toward s b a = add binary32 b (mul binary32 (sub binary32 a b) s)

unfoldable pub crossing_of : Corner → Corner → Float → Float → Corner
crossing_of b a db da =
    let s = div binary32 db (sub binary32 db da) in
    record { x = toward s b.x a.x; y = toward s b.y a.y; z = toward s b.z a.z }

-- ---- what the vertex a, with b before it, gives to the first part and to the second
-- d ≥ 0 holds at both or at neither
abbrev pub agree : Float → Float → Bool
agree db da = beq (le nought da) (le nought db)

abbrev pub joining : Bool → Corner → List Corner
joining joins v = cond joins (v ∷ []) []

unfoldable pub to_first : Corner → Corner → Float → Float → List Corner
to_first b a db da = cond (agree db da) (joining (le nought da) a) (crossing_of b a db da ∷ joining (lt nought da) a)

unfoldable pub to_second : Corner → Corner → Float → Float → List Corner
to_second b a db da = cond (agree db da) (joining (le da nought) a) (crossing_of b a db da ∷ joining (lt da nought) a)

-- ---- the round: each vertex a gives in turn, with b the vertex before it
unfoldable pub onward : (Corner → Corner → List Corner) → Corner → List Corner → List Corner
onward gives b [] = []
onward gives b (a ∷ vs) = gives b a ++ onward gives a vs

abbrev pub last_of : Corner → List Corner → Corner
last_of v [] = v
last_of v (w ∷ ws) = last_of w ws

-- before the first vertex stands the last; without a vertex nothing is given
unfoldable pub around : (Corner → Corner → List Corner) → List Corner → List Corner
around gives [] = []
around gives (v ∷ vs) = onward gives (last_of v vs) (v ∷ vs)

module _ (axis : Axis) (offset : Float) where
  abbrev pub gives_first : Corner → Corner → List Corner
  gives_first b a = to_first b a (distance axis offset b) (distance axis offset a)

  abbrev pub gives_second : Corner → Corner → List Corner
  gives_second b a = to_second b a (distance axis offset b) (distance axis offset a)

  abbrev pub first_of : List Corner → List Corner
  first_of vs = around gives_first vs

  abbrev pub second_of : List Corner → List Corner
  second_of vs = around gives_second vs

-- ---- the reply: both parts, or 6 where one of them would have an eighth vertex
abbrev pub most_vertices : ℕ
most_vertices = 7

abbrev pub fitting : List Corner → Bool
fitting vs = leb (length vs) most_vertices

pub data Cut : Type 0 where
  parts : List Corner → List Corner → Cut
  eighth : Cut

unfoldable pub cut_of : Axis → Float → List Corner → Cut
cut_of axis offset vs =
    cond (fitting (first_of axis offset vs) && fitting (second_of axis offset vs))
    (parts (first_of axis offset vs) (second_of axis offset vs))
    eighth

-- a polygon that has more than 7 vertices is refused as one whose cut would write an eighth
unfoldable pub slice_cut : Axis → Float → List Corner → Cut
slice_cut axis offset vs = cond (fitting vs) (cut_of axis offset vs) eighth

abbrev pub cut_says : Cut → Said
cut_says (parts first second) = just 0
cut_says eighth = just 6

-- ---- the verdict that code gives
abbrev pub verdict_of : Cut → Result (Unit {0}) EighthVertex
verdict_of (parts first second) = Ok tt
verdict_of eighth = Err (record {})
