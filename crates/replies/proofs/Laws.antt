-- A call whose tests follow one another has one outcome, if what follows the last test has.
use mathlib.Core.Path.{◌≡◌, sym, ◌∙◌}
use mathlib.Core.Logic.{◌⊎◌, inl, inr}
use Rattle.replies.specs.Said.{Asks}

-- at most one outcome
abbrev pub One : {O : Type 0} → (O → Type 0) → Type 0
One {O} P = (o o' : O) → P o → P o' → o ≡ o'

pub asks-one : {O : Type 0} (fact : Type 0) (refusal : O) (next : O → Type 0) → One next → One (Asks fact refusal next)
asks-one fact refusal next one o o' (inl a) (inl b) = a.1 ∙ sym b.1
asks-one fact refusal next one o o' (inl a) (inr b) = absurd (a.0 b.0)
asks-one fact refusal next one o o' (inr a) (inl b) = absurd (b.0 a.0)
asks-one fact refusal next one o o' (inr a) (inr b) = one o o' a.1 b.1
