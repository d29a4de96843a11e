-- Two answers that say the same are the same: an answer can be read back from its number and its values.
use Rattle.std.proofs.Common.{◌≡◌, cond, List, [], ◌∷◌, Result, Ok, Err, refl, sym, ap, ◌∙◌, arith}
use Rattle.std.specs.Prelude.{Float}
use lib.Dec.{eqb}
use Rattle.replies.specs.Said.{Said, Value, whole, real}
use Rattle.rerecast.specs.Answer.{refusal_says, said_of, told_of}
use Rattle.rerecast.specs.declared.Stop.{Stop}
use Rattle.rerecast.specs.declared.Stop.TheVariants as stop
use Rattle.rerecast.specs.declared.Refusal.{Refusal}
use Rattle.rerecast.specs.declared.Refusal.TheVariants.{BadNumber, BoxOrder, GridSize, Slices, Unsound, OffGrid, Inverted, NoSlot, Layers, Crowded, SpansShort, NoVertex, Stopped}

-- ---- the refusals that carry values, by the values alone

abbrev outside : List Value → Refusal
outside [] = Slices
outside (whole n ∷ vs) = Slices
outside (real x ∷ vs) = BadNumber x

abbrev sized : List Value → Refusal
sized [] = Slices
sized (whole n ∷ vs) = Slices
sized (real w ∷ []) = Slices
sized (real w ∷ whole n ∷ vs) = Slices
sized (real w ∷ real h ∷ vs) = GridSize w h

abbrev layered : List Value → Refusal
layered [] = Slices
layered (real x ∷ vs) = Slices
layered (whole n ∷ []) = Slices
layered (whole n ∷ whole m ∷ vs) = Slices
layered (whole n ∷ real x ∷ vs) = Layers n x

-- a stopped mesh, by its triangle and its insertions; a span alone that finds no slot has neither
abbrev stop_at : Stop → List Value → Refusal
stop_at why [] = NoSlot
stop_at why (real x ∷ vs) = Slices
stop_at why (whole t ∷ []) = Slices
stop_at why (whole t ∷ real x ∷ vs) = Slices
stop_at why (whole t ∷ whole made ∷ vs) = Stopped why t made

-- ---- the refusal with a number and values

abbrev read_back : Said → Refusal
read_back s =
    let n = s.number in
    cond (eqb n 1) (outside s.values)
    (cond (eqb n 2) BoxOrder
    (cond (eqb n 3) (sized s.values)
    (cond (eqb n 5) (stop_at stop.NoSlot s.values)
    (cond (eqb n 6) (stop_at stop.EighthVertex s.values)
    (cond (eqb n 7) (stop_at stop.TooHigh s.values)
    (cond (eqb n 8) OffGrid
    (cond (eqb n 9) Inverted
    (cond (eqb n 10) NoVertex
    (cond (eqb n 11) Crowded
    (cond (eqb n 12) (layered s.values)
    (cond (eqb n 14) Unsound
    (cond (eqb n 15) SpansShort Slices))))))))))))

same : (r : Refusal) → read_back (refusal_says r) ≡ r
same (BadNumber x) = refl
same BoxOrder = refl
same (GridSize w h) = refl
same Slices = refl
same Unsound = refl
same OffGrid = refl
same Inverted = refl
same NoSlot = refl
same (Layers layer top) = refl
same Crowded = refl
same SpansShort = refl
same NoVertex = refl
same (Stopped stop.NoSlot t made) = refl
same (Stopped stop.EighthVertex t made) = refl
same (Stopped stop.TooHigh t made) = refl

pub refusal-once : (q r : Refusal) → refusal_says q ≡ refusal_says r → q ≡ r
refusal-once q r e = sym (same q) ∙ ap read_back e ∙ same r

-- no refusal has the number 0
pub is_refusal : (r : Refusal) → (refusal_says r).number ≡ 0 → ⊥
is_refusal (BadNumber x) e = omega arith
is_refusal BoxOrder e = omega arith
is_refusal (GridSize w h) e = omega arith
is_refusal Slices e = omega arith
is_refusal Unsound e = omega arith
is_refusal OffGrid e = omega arith
is_refusal Inverted e = omega arith
is_refusal NoSlot e = omega arith
is_refusal (Layers layer top) e = omega arith
is_refusal Crowded e = omega arith
is_refusal SpansShort e = omega arith
is_refusal NoVertex e = omega arith
is_refusal (Stopped stop.NoSlot t made) e = omega arith
is_refusal (Stopped stop.EighthVertex t made) e = omega arith
is_refusal (Stopped stop.TooHigh t made) e = omega arith

-- ---- the answers

pub said-once : (a b : Result Unit Refusal) → said_of a ≡ said_of b → a ≡ b
said-once (Ok a) (Ok b) e = refl
said-once (Ok a) (Err r) e = absurd (is_refusal r (ap (λ (s : Said). s.number) (sym e)))
said-once (Err q) (Ok b) e = absurd (is_refusal q (ap (λ (s : Said). s.number) e))
said-once (Err q) (Err r) e = ap Err (refusal-once q r e)

-- those of `into_compact`, too
pub told-once : (a b : Result Float Refusal) → told_of a ≡ told_of b → a ≡ b
told-once (Ok x) (Ok y) e = let v = ap (λ (s : Said). s.values) e in cc
told-once (Ok x) (Err r) e = absurd (is_refusal r (ap (λ (s : Said). s.number) (sym e)))
told-once (Err q) (Ok y) e = absurd (is_refusal q (ap (λ (s : Said). s.number) e))
told-once (Err q) (Err r) e = ap Err (refusal-once q r e)

-- and an answer of the one kind says what one of the other says only where both are the same refusal
pub both-once : (a : Result Unit Refusal) (b : Result Float Refusal) → said_of a ≡ told_of b → (r : Refusal) × (a ≡ Err r) × (b ≡ Err r)
both-once (Ok a) (Ok y) e = let v = ap (λ (s : Said). s.values) e in absurd (cc)
both-once (Ok a) (Err r) e = absurd (is_refusal r (ap (λ (s : Said). s.number) (sym e)))
both-once (Err q) (Ok y) e = absurd (is_refusal q (ap (λ (s : Said). s.number) e))
both-once (Err q) (Err r) e = (q, refl, ap Err (sym (refusal-once q r e)))
