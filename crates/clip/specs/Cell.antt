-- What is kept of a cell's part. Definitions only.
use Rattle.std.specs.Prelude.{◌≡◌, refl, List, [], ◌∷◌, map, length}
use Rattle.grid.specs.declared.Corner.{Corner}
use Rattle.clip.specs.declared.cell.Piece.{Piece}
use Rattle.clip.specs.Cut.{y_of}
use Rattle.clip.specs.Slices.{least_of, greatest_of}

abbrev pub piece_of : List Corner → Piece
piece_of vs = record { n = length vs; low = least_of (map y_of vs); high = greatest_of (map y_of vs) }

-- what it is until it has all its vertices: without one it is what it was
abbrev pub piece_holding : Piece → List Corner → Piece
piece_holding p [] = p
piece_holding p (v ∷ vs) = record { n = p.n; low = least_of (map y_of (v ∷ vs)); high = greatest_of (map y_of (v ∷ vs)) }

pub piece_none : (p : Piece) → p ≡ piece_holding p []
piece_none p = refl
