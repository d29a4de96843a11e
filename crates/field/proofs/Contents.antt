-- What the slots hold, after a slot is given another span.
use mathlib.Core.Path.{◌≡◌, refl, ◌∙◌}
use mathlib.Core.Logic.{◌≢◌}
use mathlib.Core.List.{List, [], ◌∷◌, map, map-map}
use Prim.Native.Nat.{ℕ, ◌<◌}
use native.Mathlib.Omega.{arith}
use lib.ListN.{length, length-set}
use lib.Seq.{get_or-set_same, get_or-set_other}
use Rattle.field.specs.declared.Span.{Span}
use Rattle.field.specs.Spans.{range}
use Rattle.field.specs.Slots.{Contents, span_at, range_at, put, Slots, Sized, times}
use Rattle.field.proofs.Counting.{times-first}

-- all lists of the contents have n entries
pub record Long (n : ℕ) (k : Contents) : Type 0 where
  pub floors : length k.floors ≡ n
  pub ceilings : length k.ceilings ≡ n
  pub areas : length k.areas ≡ n

pub long-put : {n : ℕ} {k : Contents} (s : ℕ) (span : Span) → Long n k → Long n (put k s span)
long-put {n} {k} s span z =
    record {
      floors = length-set k.floors s span.floor ∙ z.floors;
      ceilings = length-set k.ceilings s span.ceiling ∙ z.ceilings;
      areas = length-set k.areas s span.area ∙ z.areas;
    }

pub sized-long : {t : Slots} → Sized t → Long (length t.nexts) t.contents
sized-long z = record { floors = z.floors; ceilings = z.ceilings; areas = z.areas }

pub long-sized : {t : Slots} → Long (length t.nexts) t.contents → Sized t
long-sized z = record { floors = z.floors; ceilings = z.ceilings; areas = z.areas }

pub put_same : {n : ℕ} {k : Contents} (s : ℕ) (span : Span) → Long n k → s < n → span_at (put k s span) s ≡ span
put_same {n} {k} s span z l =
    let f = get_or-set_same k.floors s span.floor 0 (omega (arith, z.floors)) in
    let c = get_or-set_same k.ceilings s span.ceiling 0 (omega (arith, z.ceilings)) in
    let a = get_or-set_same k.areas s span.area 0 (omega (arith, z.areas)) in
    λ i. record { floor = f i; ceiling = c i; area = a i }

pub put_other : (k : Contents) (s : ℕ) (span : Span) (x : ℕ) → x ≢ s → span_at (put k s span) x ≡ span_at k x
put_other k s span x d =
    let f = get_or-set_other k.floors s x span.floor 0 d in
    let c = get_or-set_other k.ceilings s x span.ceiling 0 d in
    let a = get_or-set_other k.areas s x span.area 0 d in
    λ i. record { floor = f i; ceiling = c i; area = a i }

-- two readings of slots that agree on those of a list give the same list
pub map-agree : {A : Type 0} (at at' : ℕ → A) (ss : List ℕ) → ((x : ℕ) → 0 < times x ss → at' x ≡ at x) → map at' ss ≡ map at ss
map-agree at at' [] agree = refl
map-agree at at' (s ∷ ss) agree =
    rw (agree s (times-first s ss), map-agree at at' ss (λ x p. agree x (omega arith)))

-- the heights of slots are those of their spans
pub ranges-spans : (k : Contents) (ss : List ℕ) → map range (map (span_at k) ss) ≡ map (range_at k) ss
ranges-spans k ss = map-map range (span_at k) ss
