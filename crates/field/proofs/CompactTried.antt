-- Links and missed layers, worked out: beside a tall stack of floors, which layer a link leads to, and which gives reply 12. One table, computed.
use mathlib.Core.Path.{◌≡◌, refl}
use mathlib.Core.List.{List, [], ◌∷◌, map}
use Prim.Native.Nat.{ℕ, zero, suc, ◌+◌, ◌*◌}
use Rattle.field.specs.Open.{Open, space}
use Rattle.field.specs.Links.{passes, link, missed}

-- floors one after another from height `y` on, 10 apart, each with room for 8
abbrev stack : ℕ → ℕ → List Open
stack y zero = []
stack y (suc n) = space y 8 1 ∷ stack (y + 10) n

-- an agent 5 high stands level with layer `level` of a stack beside, and climbs `climb`; the link, with 63 for none, and the layer missed, with 0 for none
pub record Case : Type 0 where
  pub layers : ℕ
  pub level : ℕ
  pub climb : ℕ
  pub link : ℕ
  pub missed : ℕ

abbrev case : ℕ → ℕ → ℕ → ℕ → ℕ → Case
case layers level climb link missed = record { layers = layers; level = level; climb = climb; link = link; missed = missed }

pub table : List Case
table =
    case 3 1 0 1 0
    ∷ case 3 3 0 63 0  -- no floor there
    ∷ case 62 61 0 61 0  -- the last layer that a link may go to
    ∷ case 63 62 0 63 0  -- layer 62 alone is passed over in silence
    ∷ case 64 63 0 63 63  -- reply 12
    ∷ case 255 254 0 63 254  -- reply 12, with the largest layer there can be
    ∷ []

abbrev pub worked : Case → Case
worked c =
    let pass = passes 5 c.climb (space (10 * c.level) 8 1) in
    let beside = stack 0 c.layers in
    case c.layers c.level c.climb (link pass beside) (missed pass beside)

-- Every entry of the table is right.
pub tried : map worked table ≡ table
unfolding table
tried = refl

-- Of two layers that pass the lower one is taken: an agent 5 high, in a high hall, beside floors 12 apart, can step down 6 or up 6.
pub lowest-taken : link (passes 5 6 (space 106 200 1)) (space 100 11 1 ∷ space 112 200 1 ∷ []) ≡ 0
lowest-taken = refl

-- beside a floor at 100, from one at height `y`: the link of an agent 5 high that climbs 6
abbrev from : ℕ → ℕ → ℕ
from y room = link (passes 5 6 (space y room 1)) (space 100 20 1 ∷ [])

-- A step of exactly the climb is linked, up or down, and one more is not; so it is with a shared room of exactly the height, and one less.
pub just_enough : (from 94 50 ≡ 0) × (from 93 50 ≡ 63) × (from 106 50 ≡ 0) × (from 107 50 ≡ 63) × (from 100 5 ≡ 0) × (from 100 4 ≡ 63)
just_enough = (refl, refl, refl, refl, refl, refl)
