-- What a reply says, and how a call's tests follow one another (docs/RULES.md, "Numbered replies").
use Rattle.std.specs.Prelude.{◌≡◌, ◌⊎◌, List, [], ◌∷◌, ℕ, Float}

-- a reply's values are whole numbers and floats
pub data Value : Type 0 where
  whole : ℕ → Value
  real : Float → Value

-- a reply's number, with the values that it carries
pub record Said : Type 0 where
  pub number : ℕ
  pub values : List Value

abbrev pub say : ℕ → List Value → Said
say n vs = record { number = n; values = vs }

-- a number with nothing beside it
abbrev pub just : ℕ → Said
just n = say n []

-- One test of a call, of outcomes of any kind: where the fact fails the outcome is `refusal`, and where it holds the call goes on with `next`.
-- A call's tests stand one inside the other, so the first that fails gives the outcome.
abbrev pub Asks : {O : Type 0} → Type 0 → O → (O → Type 0) → O → Type 0
Asks fact refusal next o = ((fact → ⊥) × (o ≡ refusal)) ⊎ (fact × next o)
