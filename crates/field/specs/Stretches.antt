-- Stretches: what a column lists of the spans that were accepted there.
use Rattle.std.specs.Prelude.{◌≡◌, ◌⊎◌, ◌↔◌, List, [], ◌∷◌, ◌≤◌}
use Rattle.field.specs.Spans.{Range, Ascends}

abbrev pub In : {A : Type 0} → A → List A → Type 0
In a [] = ⊥
In a (b ∷ bs) = (a ≡ b) ⊎ In a bs

-- two share a height
abbrev pub Shares : Range → Range → Type 0
Shares a b = (a.floor ≤ b.ceiling) × (b.floor ≤ a.ceiling)

-- a chain of those in `A` joins the two, each sharing a height with the next
pub data Linked (A : List Range) : Range → Range → Type 0 where
  same : {a : Range} → Linked A a a
  next : {a b c : Range} → In b A → Shares a b → Linked A b c → Linked A a c

-- every height of `a` is one of `s`
abbrev pub Within : Range → Range → Type 0
Within a s = (s.floor ≤ a.floor) × (a.ceiling ≤ s.ceiling)

-- A stretch of `A`: all those that a chain joins with one of them, from their lowest floor to their highest ceiling.
pub record Stretch (A : List Range) (s : Range) : Type 0 where
  pub one : Range
  pub among : In one A
  pub covers : (a : Range) → In a A → Linked A one a → Within a s
  pub lowest : (a : Range) × In a A × Linked A one a × (a.floor ≡ s.floor)
  pub highest : (a : Range) × In a A × Linked A one a × (a.ceiling ≡ s.ceiling)

-- `L` lists, ascending and so each once, exactly the stretches of `A`.
pub record Lists (A L : List Range) : Type 0 where
  pub ascends : Ascends 0 L
  pub exactly : (s : Range) → In s L ↔ Stretch A s
