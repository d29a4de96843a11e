-- What remains of a polygon while parts are cut off it. Definitions only.
use Rattle.std.specs.Prelude.{◌≡◌, refl, List, [], false, cond}
use Rattle.grid.specs.declared.Corner.{Corner}
use Rattle.clip.specs.declared.rest.Rest.{Rest}
use Rattle.clip.specs.Poly.{held, polygon_of, polygon_holding}

abbrev pub left : Rest → List Corner
left r = cond r.swapped (held r.other) (held r.one)

-- ---- as a part: what it is with other vertices, of which nothing is cut off, and what it is until it has all of them
abbrev pub rest_of : Rest → List Corner → Rest
rest_of r vs = record { one = polygon_of r.one vs; other = r.other; swapped = false }

abbrev pub rest_holding : Rest → List Corner → Rest
rest_holding r vs = record { one = polygon_holding r.one vs; other = r.other; swapped = r.swapped }

pub rest_none : (r : Rest) → r ≡ rest_holding r []
rest_none r = refl
