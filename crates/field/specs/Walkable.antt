-- What a span is to an agent that stands on it: whether it is walkable, and what is above (docs/RULES.md, "Numbers" and "Filters, in order").
use Rattle.std.specs.Prelude.{Bool, not, List, [], ◌∷◌, ℕ, eqb}
use Rattle.field.specs.declared.Span.{Span}

-- area 0 is not walkable
abbrev pub walkable : Span → Bool
walkable s = not (eqb s.area 0)

-- the height at which a column ends, where no span is above
abbrev pub open_top : ℕ
open_top = 65535

-- the floor of the lowest of these spans, or the open top
abbrev pub roof : List Span → ℕ
roof [] = open_top
roof (s ∷ ss) = s.floor
