-- The rules' examples P7, P8 and P12.
use mathlib.Core.Path.{◌≡◌, refl}
use mathlib.Core.List.{[], ◌∷◌}
use Rattle.compact_span.specs.Word.{word, links, height_of, no_links, empty_mark, gap_of}

-- height 200 with the links 3, empty, 0, 61, packed and read back
pub p7 : word 200 (3 ∷ empty_mark ∷ 0 ∷ 61 ∷ []) ≡ 3371438019
p7 = refl

pub p7-back : (height_of 3371438019 ≡ 200) × (links 3371438019 ≡ 3 ∷ empty_mark ∷ 0 ∷ 61 ∷ [])
p7-back = (refl, refl)

-- height 255 with no links
pub p8 : word 255 no_links ≡ 4294967295
p8 = refl

-- a ceiling at 10 with the next floor at 300, and at 100
pub p12 : (gap_of 10 300 ≡ 255) × (gap_of 10 100 ≡ 90)
p12 = (refl, refl)
