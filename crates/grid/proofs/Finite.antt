-- What is inside its limits is a finite number.
use mathlib.Core.Path.{◌≡◌, refl, sym}
use mathlib.Core.Bool.{true, false, true≢false}
use lib.Ieee.{Float, nan, inf, fin, le, lt, eq}
use lib.Ieee.Scale.{finite}
use Rattle.grid.specs.Grid.{coordinate_ok, cell_ok}

pub coordinate-finite : (x : Float) → coordinate_ok x ≡ true → finite x ≡ true
unfolding coordinate_ok le lt eq
coordinate-finite nan h = absurd (true≢false (sym h))
coordinate-finite (inf true) h = absurd (true≢false (sym h))
coordinate-finite (inf false) h = absurd (true≢false (sym h))
coordinate-finite (fin s m e) h = refl

pub cell-finite : (x : Float) → cell_ok x ≡ true → finite x ≡ true
unfolding cell_ok le lt eq
cell-finite nan h = absurd (true≢false (sym h))
cell-finite (inf true) h = absurd (true≢false (sym h))
cell-finite (inf false) h = absurd (true≢false (sym h))
cell-finite (fin s m e) h = refl
