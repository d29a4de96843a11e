-- Two answers that say the same are the same.
use Rattle.std.proofs.Common.{◌≡◌, ℕ, ◌*◌, ◌≤◌, List, [], ◌∷◌, Result, Ok, Err, refl, sym, ap, ◌∙◌, subst, arith}
use Rattle.std.specs.Coded.{le_prop}
use Rattle.replies.specs.Said.{Said, Value, whole, real}
use Rattle.grid.specs.Answer.{said_of, said_of_error}
use Rattle.grid.specs.declared.sizes.Size.{Size}
use Rattle.grid.specs.declared.GridError.{GridError}
use Rattle.grid.specs.declared.GridError.TheVariants.{BadNumber, BoxOrder, GridSize}

-- ---- a refusal can be read back from the values that it says

abbrev pub read_back : List Value → GridError
read_back [] = BoxOrder
read_back (real x ∷ []) = BadNumber x
read_back (real w ∷ real h ∷ vs) = GridSize w h
read_back (real w ∷ whole h ∷ vs) = BoxOrder
read_back (whole w ∷ vs) = BoxOrder

same : (e : GridError) → read_back (said_of_error e).values ≡ e
same (BadNumber x) = refl
same BoxOrder = refl
same (GridSize w h) = refl

-- ---- a size is its width and its height: there is one proof at most that these give few enough columns

pub same-size : (a b : Size) → a.width ≡ b.width → a.height ≡ b.height → a ≡ b
same-size a b p q = go p q b.few
  where
    go : {w h : ℕ} → a.width ≡ w → a.height ≡ h → (f : w * h ≤ 1048576) → a ≡ record { width = w; height = h; few = f }
    go {w} {h} p q =
        let P : ℕ → ℕ → Type 0 = λ w h. (f : w * h ≤ 1048576) → a ≡ record { width = w; height = h; few = f } in
        let build : (a.width * a.height ≤ 1048576) → Size = λ f. record { width = a.width; height = a.height; few = f } in
        subst (λ (w : ℕ). P w h) p (subst (λ (h : ℕ). P a.width h) q (λ f. ap build (le_prop a.few f)))

-- the first of some values, if it is a whole number, and what follows it
abbrev pub whole_of : List Value → ℕ
whole_of (whole n ∷ vs) = n
whole_of (real x ∷ vs) = 0
whole_of [] = 0

abbrev pub rest_of : List Value → List Value
rest_of (v ∷ vs) = vs
rest_of [] = []

-- ---- an answer is accepted or refused, and says which by its number

pub is_refusal : (e : GridError) → (said_of_error e).number ≡ 0 → ⊥
is_refusal (BadNumber x) q = omega (arith, q)
is_refusal BoxOrder q = omega (arith, q)
is_refusal (GridSize w h) q = omega (arith, q)

pub said-once : (a b : Result Size GridError) → said_of a ≡ said_of b → a ≡ b
said-once (Ok s) (Ok t) q =
    ap Ok (same-size s t (ap (λ (r : Said). whole_of r.values) q) (ap (λ (r : Said). whole_of (rest_of r.values)) q))
said-once (Ok s) (Err e) q = absurd (is_refusal e (sym (ap (λ (r : Said). r.number) q)))
said-once (Err e) (Ok s) q = absurd (is_refusal e (ap (λ (r : Said). r.number) q))
said-once (Err d) (Err e) q = ap Err (sym (same d) ∙ ap (λ (r : Said). read_back r.values) q ∙ same e)
