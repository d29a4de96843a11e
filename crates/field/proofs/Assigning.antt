-- Areas given to the slots of a column, and read again.
use mathlib.Core.Path.{◌≡◌, refl, ap, ap₂, ◌∙◌}
use mathlib.Core.List.{List, [], ◌∷◌, map}
use Prim.Native.Nat.{ℕ, suc, ◌<◌}
use native.Mathlib.Omega.{arith}
use lib.ListN.{length, get_or, set, length-set}
use lib.Seq.{get_or-set_same, get_or-set_other}
use Rattle.field.specs.declared.Span.{Span}
use Rattle.field.specs.Slots.{contents, span_at, times}
use Rattle.field.specs.Inner.{Distinct}
use Rattle.field.specs.Filters.{ruled, assign}
use Rattle.field.proofs.Counting.{same-eq, times-first, times-apart, distinct_head, distinct_tail}
use Rattle.field.proofs.Contents.{map-agree}

-- slots whose areas agree have the same spans
pub spans-agree : (fl ce ar ar' ss : List ℕ) → ((x : ℕ) → 0 < times x ss → get_or ar' x 0 ≡ get_or ar x 0) → map (span_at (contents fl ce ar')) ss ≡ map (span_at (contents fl ce ar)) ss
spans-agree fl ce ar ar' ss agree =
    map-agree (span_at (contents fl ce ar)) (span_at (contents fl ce ar')) ss
    (λ x p. let a = agree x p in λ i. record { floor = get_or fl x 0; ceiling = get_or ce x 0; area = a i })

pub spans-set : (fl ce ar : List ℕ) (s v : ℕ) (ss : List ℕ) → times s ss ≡ 0 → map (span_at (contents fl ce (set ar s v))) ss ≡ map (span_at (contents fl ce ar)) ss
spans-set fl ce ar s v ss z = spans-agree fl ce ar (set ar s v) ss (λ x p. get_or-set_other ar s x v 0 (times-apart x s ss p z))

pub length-assign : (ar ss vs : List ℕ) → length (assign ar ss vs) ≡ length ar
length-assign ar [] vs = refl
length-assign ar (s ∷ ss) [] = refl
length-assign ar (s ∷ ss) (v ∷ vs) = length-assign (set ar s v) ss vs ∙ length-set ar s v

-- a slot that the column does not have keeps its area
pub assign_other : (ar ss vs : List ℕ) (x : ℕ) → times x ss ≡ 0 → get_or (assign ar ss vs) x 0 ≡ get_or ar x 0
assign_other ar [] vs x z = refl
assign_other ar (s ∷ ss) [] x z = refl
assign_other ar (s ∷ ss) (v ∷ vs) x z =
    assign_other (set ar s v) ss vs x (omega arith) ∙ get_or-set_other ar s x v 0 (λ e. omega (arith, same-eq x s e))

-- the column's slots have what they were given
pub assign-read : (ar ss vs : List ℕ) → Distinct ss → ((x : ℕ) → 0 < times x ss → x < length ar) → length vs ≡ length ss → map (λ s. get_or (assign ar ss vs) s 0) ss ≡ vs
assign-read ar [] [] d w l = refl
assign-read ar [] (v ∷ vs) d w l = absurd (omega arith)
assign-read ar (s ∷ ss) [] d w l = absurd (omega arith)
assign-read ar (s ∷ ss) (v ∷ vs) d w l =
    ap₂ (λ (a : ℕ) (r : List ℕ). a ∷ r)
    (assign_other (set ar s v) ss vs s (distinct_head s ss d) ∙ get_or-set_same ar s v 0 (w s (times-first s ss)))
    (assign-read (set ar s v) ss vs (distinct_tail s ss d) (λ x p. omega (arith, w x (omega arith), length-set ar s v)) (omega arith))

-- a rule gives an area for each span
pub ruled-length : (rule : List Span → Span → List Span → ℕ) (below ss : List Span) → length (ruled rule below ss) ≡ length ss
ruled-length rule below [] = refl
ruled-length rule below (s ∷ ss) = ap suc (ruled-length rule (s ∷ below) ss)

-- rules that agree give the same areas
pub ruled-agree : (g g' : List Span → Span → List Span → ℕ) → ((below : List Span) (s : Span) (above : List Span) → g below s above ≡ g' below s above) → (below ss : List Span) → ruled g below ss ≡ ruled g' below ss
ruled-agree g g' agree below [] = refl
ruled-agree g g' agree below (s ∷ ss) =
    ap₂ (λ (a : ℕ) (l : List ℕ). a ∷ l) (agree below s ss) (ruled-agree g g' agree (s ∷ below) ss)
