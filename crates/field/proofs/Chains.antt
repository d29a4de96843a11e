-- Chains of slots: in parts, under stores, and as the list that following them gives.
use mathlib.Core.Path.{◌≡◌, refl, sym, ap, ◌∙◌}
use mathlib.Core.Logic.{◌≢◌}
use mathlib.Core.List.{List, [], ◌∷◌, ◌++◌}
use Prim.Native.Nat.{ℕ, zero, suc, ◌+◌, ◌<◌, ◌≤◌}
use native.Mathlib.Omega.{arith}
use native.Mathlib.Nat.{le_of_suc-le-suc, not-suc-le-zero}
use native.Mathlib.Decide.{dec_lt}
use borrow.Author.Tests.{le-ltb, lt-ltb}
use lib.ListN.{length, get_or, set, length-set}
use lib.Seq.{get_or-set_same, get_or-set_other}
use Rattle.field.specs.Slots.{none, Run, same, times}
use Rattle.field.specs.Inner.{Chain, Distinct, first_or, last_or, steps_from, slots_from}
use Rattle.field.proofs.Basics.{by-dec}
use Rattle.field.proofs.Counting.{same_refl, same-other, times-first, times-here, times-apart, distinct_head, distinct_tail, distinct-short}

-- ---- runs

pub run-first : (nx : List ℕ) (h : ℕ) (ss : List ℕ) (e : ℕ) → Run nx h ss e → h ≡ first_or e ss
run-first nx h [] e r = r
run-first nx h (s ∷ ss) e r = r.0

-- a number past the slots is in no run
pub run_past : (nx : List ℕ) (h : ℕ) (ss : List ℕ) (e x : ℕ) → length nx ≤ x → Run nx h ss e → times x ss ≡ 0
run_past nx h [] e x p r = refl
run_past nx h (s ∷ ss) e x p r =
    let l = r.1 in
    omega (arith, run_past nx (get_or nx s 0) ss e x p r.2, same-other x s (λ q. omega arith))

pub run_in : (nx : List ℕ) (h : ℕ) (ss : List ℕ) (e x : ℕ) → Run nx h ss e → 0 < times x ss → x < length nx
run_in nx h ss e x r p =
    by-dec (dec_lt x (length nx)) (λ q. q) (λ q. absurd (omega (arith, run_past nx h ss e x (omega arith) r)))

pub run_short : (nx : List ℕ) (h : ℕ) (ss : List ℕ) (e : ℕ) → Run nx h ss e → Distinct ss → length ss ≤ length nx
run_short nx h ss e r d = distinct-short (length nx) ss (λ x p. run_in nx h ss e x r p) d

pub run-nil : (nx : List ℕ) (h : ℕ) (ss : List ℕ) → length nx ≤ none → Run nx h ss none → h ≡ none → ss ≡ []
run-nil nx h [] few r e = refl
run-nil nx h (s ∷ ss) few r e = absurd (omega (arith, r.0, r.1))

pub run-cons : (nx : List ℕ) (h : ℕ) (ss : List ℕ) → Run nx h ss none → h ≢ none → (tl : List ℕ) × (ss ≡ h ∷ tl) × (h < length nx) × Run nx (get_or nx h 0) tl none
run-cons nx h [] r n = absurd (n r)
run-cons nx h (s ∷ ss) r n = (ss, ap (λ (k : ℕ). k ∷ ss) (sym r.0), rw r.0 r.1, rw r.0 r.2)

-- one list of slots at most
pub run-unique : (nx : List ℕ) (h : ℕ) (ss ss' : List ℕ) → length nx ≤ none → Run nx h ss none → Run nx h ss' none → ss ≡ ss'
run-unique nx h [] [] few r q = refl
run-unique nx h [] (s ∷ ss) few r q = absurd (omega (arith, q.0, q.1))
run-unique nx h (s ∷ ss) [] few r q = absurd (omega (arith, r.0, r.1))
run-unique nx h (s ∷ ss) (s' ∷ ss') few r q =
    let e : s ≡ s' = sym r.0 ∙ q.0 in
    let q₂ : Run nx (get_or nx s 0) ss' none = rw e q.2 in
    rw (e, run-unique nx (get_or nx s 0) ss ss' few r.2 q₂)

-- what follows a slot of a run is fixed by its list
pub run-next : (nx nx' : List ℕ) (h h' : ℕ) (ss : List ℕ) (e x : ℕ) → Run nx h ss e → Run nx' h' ss e → 0 < times x ss → get_or nx x 0 ≡ get_or nx' x 0
run-next nx nx' h h' [] e x r q p = absurd (omega arith)
run-next nx nx' h h' (s ∷ ss) e x r q p =
    by-dec (dec_lt 0 (times x ss)) (λ l. run-next nx nx' (get_or nx s 0) (get_or nx' s 0) ss e x r.2 q.2 l)
    (λ n.
    rw (times-here x s ss p n) (run-first nx (get_or nx s 0) ss e r.2 ∙ sym (run-first nx' (get_or nx' s 0) ss e q.2)))

-- ---- in two parts

pub run_join : (nx : List ℕ) (h : ℕ) (a b : List ℕ) (m e : ℕ) → Run nx h a m → Run nx m b e → Run nx h (a ++ b) e
run_join nx h [] b m e r q = rw r q
run_join nx h (s ∷ a) b m e r q = (r.0, r.1, run_join nx (get_or nx s 0) a b m e r.2 q)

pub run-split : (nx : List ℕ) (h : ℕ) (a b : List ℕ) (e : ℕ) → Run nx h (a ++ b) e → Run nx h a (first_or e b) × Run nx (first_or e b) b e
run-split nx h [] [] e r = (r, refl)
run-split nx h [] (s ∷ b) e r = (r.0, (refl, r.1, r.2))
run-split nx h (s ∷ a) b e r = let k = run-split nx (get_or nx s 0) a b e r.2 in ((r.0, r.1, k.0), k.1)

-- ---- under stores

-- a run stays where the nexts agree on its slots
pub run_agree : (nx nx' : List ℕ) (h : ℕ) (ss : List ℕ) (e : ℕ) → length nx' ≡ length nx → ((x : ℕ) → 0 < times x ss → get_or nx' x 0 ≡ get_or nx x 0) → Run nx h ss e → Run nx' h ss e
run_agree nx nx' h [] e l agree r = r
run_agree nx nx' h (s ∷ ss) e l agree r = (
  r.0,
  (rw l r.1),
  rw (agree s (times-first s ss)) (run_agree nx nx' (get_or nx s 0) ss e l (λ x p. agree x (omega arith)) r.2),
)

-- and under a store at a slot that it does not have
pub run-set : (nx : List ℕ) (i v h : ℕ) (ss : List ℕ) (e : ℕ) → times i ss ≡ 0 → Run nx h ss e → Run (set nx i v) h ss e
run-set nx i v h ss e away r =
    run_agree nx (set nx i v) h ss e (length-set nx i v) (λ x p. get_or-set_other nx i x v 0 (times-apart x i ss p away)) r

-- a slot put in front of a run
pub run-front : (nx : List ℕ) (s h : ℕ) (ss : List ℕ) (e : ℕ) → s < length nx → times s ss ≡ 0 → Run nx h ss e → Run (set nx s h) s (s ∷ ss) e
run-front nx s h ss e lt away r = (
  refl,
  rw length-set lt,
  rw (get_or-set_same nx s h 0 lt) (run-set nx s h h ss e away r),
)

-- the last of a list is in it, or what stands for none
pub last-in : (d : ℕ) (ss : List ℕ) → 0 < same (last_or d ss) d + times (last_or d ss) ss
last-in d [] = omega (arith, same_refl d)
last-in d (s ∷ ss) = omega (arith, last-in s ss)

pub run-last : (nx : List ℕ) (h s : ℕ) (ss : List ℕ) (e : ℕ) → Run nx h (s ∷ ss) e → last_or s ss < length nx
run-last nx h s [] e r = r.1
run-last nx h s (s' ∷ ss) e r = run-last nx (get_or nx s 0) s' ss e r.2

-- a slot that is not in a list is not its last
pub away-last : (x : ℕ) (ss : List ℕ) → times x ss ≡ 0 → x ≢ none → x ≢ last_or none ss
away-last x ss z n q =
    omega (arith, last-in none ss, same-other x none n, ap (λ (k : ℕ). same k none + times k ss) q)

-- the last slot of a run is linked to v
pub run-relink : (nx : List ℕ) (h s : ℕ) (ss : List ℕ) (e v : ℕ) → Distinct (s ∷ ss) → Run nx h (s ∷ ss) e → Run (set nx (last_or s ss) v) h (s ∷ ss) v
run-relink nx h s [] e v d r = (r.0, rw length-set r.1, get_or-set_same nx s v 0 r.1)
run-relink nx h s (s' ∷ ss) e v d r =
    let away : s ≢ last_or s' ss =
    λ q. let z : times (last_or s' ss) (s' ∷ ss) ≡ times s (s' ∷ ss) = ap (λ (k : ℕ). times k (s' ∷ ss)) (sym q) in omega (arith, last-in s' ss, distinct_head s (s' ∷ ss) d)
    in (
      r.0,
      rw length-set r.1,
      rw (get_or-set_other nx (last_or s' ss) s v 0 away) (run-relink nx (get_or nx s 0) s' ss e v (distinct_tail s (s' ∷ ss) d) r.2),
    )

-- ---- whole chains

steps-run : (nx : List ℕ) (n h : ℕ) (ss : List ℕ) → length nx ≤ none → length ss ≤ n → Run nx h ss none → steps_from nx n h ≡ ss
steps-run nx zero h [] few short r = refl
steps-run nx zero h (s ∷ ss) few short r = absurd (not-suc-le-zero short)
steps-run nx (suc n) h [] few short r = rw (le-ltb h (length nx) (omega arith))
steps-run nx (suc n) h (s ∷ ss) few short r =
    rw (r.0, lt-ltb s (length nx) r.1) (ap (λ (l : List ℕ). s ∷ l) (steps-run nx n (get_or nx s 0) ss few (le_of_suc-le-suc short) r.2))

pub chain_steps : {nx : List ℕ} {h : ℕ} {ss : List ℕ} → Chain nx h ss → slots_from nx h ≡ ss
chain_steps {nx} {h} {ss} c = steps-run nx (length nx) h ss c.few c.short c.run

pub chain-of : {nx : List ℕ} {h : ℕ} {ss : List ℕ} → length nx ≤ none → Run nx h ss none → Distinct ss → Chain nx h ss
chain-of {nx} {h} {ss} few r d = record { run = r; short = run_short nx h ss none r d; few = few }

pub chain-unique : {nx : List ℕ} {h : ℕ} {ss ss' : List ℕ} → Chain nx h ss → Chain nx h ss' → ss ≡ ss'
chain-unique c d = sym (chain_steps c) ∙ chain_steps d

chain-tail : {nx : List ℕ} {h s : ℕ} {ss : List ℕ} → Chain nx h (s ∷ ss) → Chain nx (get_or nx s 0) ss
chain-tail c = record { run = c.run.2; short = omega (arith, c.short); few = c.few }

-- where a chain has not ended there is a slot
pub chain-slot : {nx : List ℕ} {h : ℕ} (ss : List ℕ) → Chain nx h ss → h ≢ none → h < length nx
chain-slot [] c n = absurd (n c.run)
chain-slot (s ∷ ss) c n = rw c.run.0 c.run.1

-- and its list is that slot and the chain from the next one
pub chain-cons : {nx : List ℕ} {h : ℕ} (ss : List ℕ) → Chain nx h ss → h ≢ none → (tl : List ℕ) × (ss ≡ h ∷ tl) × Chain nx (get_or nx h 0) tl
chain-cons [] c n = absurd (n c.run)
chain-cons (s ∷ ss) c n = (ss, ap (λ (k : ℕ). k ∷ ss) (sym c.run.0), rw c.run.0 (chain-tail c))

pub chain-nil : {nx : List ℕ} {h : ℕ} (ss : List ℕ) → Chain nx h ss → h ≡ none → ss ≡ []
chain-nil [] c n = refl
chain-nil (s ∷ ss) c n = absurd (omega (arith, c.few, c.run.0, c.run.1))

-- one slot on, a walk is shorter
pub chain-less : {nx nx' : List ℕ} {h h' : ℕ} (ss tl : List ℕ) → Chain nx h ss → ss ≡ h ∷ tl → Chain nx' h' tl → length (slots_from nx' h') < length (slots_from nx h)
chain-less ss tl c e d = omega (arith, ap length (chain_steps c), ap length (chain_steps d), ap length e)
