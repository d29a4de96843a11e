-- Floors and open spaces are the same things, numbered alike; a step in a direction leads to the column that the rules put there; and the two tests of a
-- link hold exactly where an agent can step.
use mathlib.Core.Path.{◌≡◌, refl, sym, ap, subst, ◌∙◌}
use mathlib.Core.Logic.{◌≢◌}
use mathlib.Core.Bool.{Bool, true, false, cond, ◌&&◌}
use mathlib.Core.List.{List, [], ◌∷◌, ◌++◌}
use Prim.Native.Nat.{ℕ, zero, suc, ◌+◌, ◌-◌, ◌*◌, ◌<◌, ◌≤◌, min, max}
use native.Mathlib.Omega.{arith}
use native.Mathlib.Nat.{not-suc-le-zero, le_of_suc-le-suc}
use borrow.Author.Tests.{lt-ltb, ltb-true, leb-true, le-leb}
use lib.ListN.{length, get_or}
use lib.Dec.{ltb, leb}
use Rattle.compact_span.specs.Word.{gap_of}
use Rattle.field.specs.declared.Span.{Span}
use Rattle.field.specs.Slots.{none}
use Rattle.field.specs.Walkable.{walkable, roof}
use Rattle.field.specs.Beside.{beside_at}
use Rattle.field.specs.Open.{Open, space, opens}
use Rattle.field.specs.Links.{passes}
use Rattle.field.specs.Linked.{walkables, Floor, stands_at, room_to, CanStep, Step}
use Rattle.field.proofs.Basics.{by-test, true-false}
use Rattle.field.proofs.Opening.{nowhere}

-- ---- floors are open spaces

-- the open space above a floor
abbrev pub open_of : {column : List Span} {layer : ℕ} → Floor column layer → Open
open_of a = space (stands_at a) (gap_of (stands_at a) (roof a.above)) a.span.area

opens-walked : (s : Span) (ss : List Span) → walkable s ≡ true → opens (s ∷ ss) ≡ space s.ceiling (gap_of s.ceiling (roof ss)) s.area ∷ opens ss
opens-walked s ss e = rw e

opens_not : (s : Span) (ss : List Span) → walkable s ≡ false → opens (s ∷ ss) ≡ opens ss
opens_not s ss e = rw e

-- the open space with number `k` of a column is `o`
abbrev Has : Open → List Span → ℕ → Type 0
Has o column k = (k < length (opens column)) × (get_or (opens column) k nowhere ≡ o)

-- a walkable span has the one with the number of walkable spans below
open-there : (below : List Span) (s : Span) (above : List Span) → walkable s ≡ true → Has (space s.ceiling (gap_of s.ceiling (roof above)) s.area) (below ++ s ∷ above) (walkables below)
open-there [] s above e = rw e (omega arith, refl)
open-there (b ∷ below) s above e =
    let r = open-there below s above e in
    by-test (walkable b) (λ t. rw t (omega (arith, r.0), r.1)) (λ t. rw t r)

pub floor-open : {column : List Span} {layer : ℕ} (a : Floor column layer) → (layer < length (opens column)) × (get_or (opens column) layer nowhere ≡ open_of a)
floor-open {column} {layer} a =
    subst (λ (c : List Span). Has (open_of a) c layer) (sym a.in-column)
    (subst (λ (n : ℕ). Has (open_of a) (a.below ++ a.span ∷ a.above) n) (sym a.number)
    (open-there a.below a.span a.above a.walked))

-- an open space is that of a floor
pub record Under (column : List Span) (layer : ℕ) : Type 0 where
  pub floor : Floor column layer
  pub is : get_or (opens column) layer nowhere ≡ open_of floor

-- one span more below
under-walked : (b : Span) (ss : List Span) (k : ℕ) → walkable b ≡ true → Under ss k → Under (b ∷ ss) (suc k)
under-walked b ss k e u =
    record {
      floor =
          record {
            below = b ∷ u.floor.below;
            span = u.floor.span;
            above = u.floor.above;
            in-column = ap (λ (l : List Span). b ∷ l) u.floor.in-column;
            walked = u.floor.walked;
            number = rw e (ap suc u.floor.number);
          };
      is = ap (λ (l : List Open). get_or l (suc k) nowhere) (opens-walked b ss e) ∙ u.is;
    }

under-not : (b : Span) (ss : List Span) (k : ℕ) → walkable b ≡ false → Under ss k → Under (b ∷ ss) k
under-not b ss k e u =
    record {
      floor =
          record {
            below = b ∷ u.floor.below;
            span = u.floor.span;
            above = u.floor.above;
            in-column = ap (λ (l : List Span). b ∷ l) u.floor.in-column;
            walked = u.floor.walked;
            number = rw e u.floor.number;
          };
      is = ap (λ (l : List Open). get_or l k nowhere) (opens_not b ss e) ∙ u.is;
    }

under_first : (s : Span) (ss : List Span) → walkable s ≡ true → Under (s ∷ ss) 0
under_first s ss e =
    record {
      floor = record { below = []; span = s; above = ss; in-column = refl; walked = e; number = refl };
      is = ap (λ (l : List Open). get_or l 0 nowhere) (opens-walked s ss e);
    }

under_some : (s : Span) (ss : List Span) (k : ℕ) → walkable s ≡ true → ((k : ℕ) → k < length (opens ss) → Under ss k) → k < suc (length (opens ss)) → Under (s ∷ ss) k
under_some s ss zero t f h = under_first s ss t
under_some s ss (suc k) t f h = under-walked s ss k t (f k (le_of_suc-le-suc h))

pub open-floor : (column : List Span) (layer : ℕ) → layer < length (opens column) → Under column layer
open-floor [] k h = absurd (not-suc-le-zero h)
open-floor (s ∷ ss) k h =
    by-test (walkable s) (λ t. under_some s ss k t (open-floor ss) (rw (opens-walked s ss t) at h))
    (λ t. under-not s ss k t (open-floor ss k (rw (opens_not s ss t) at h)))

-- ---- both tests

both : (a b : Bool) → (a && b) ≡ true → (a ≡ true) × (b ≡ true)
both true b e = (refl, e)
both false b e = absurd (true-false (sym e))

module _ (tall climb : ℕ) {c c' : List Span} {l l' : ℕ} (a : Floor c l) (b : Floor c' l') where
  pub can-passes : CanStep tall climb a b → passes tall climb (open_of a) (open_of b) ≡ true
  can-passes k =
      rw (le-leb (max (stands_at a) (stands_at b) + tall) (min (room_to a) (room_to b)) k.room, le-leb (stands_at b) (stands_at a + climb) k.up, le-leb (stands_at a) (stands_at b + climb) k.down)

  pub passes-can : passes tall climb (open_of a) (open_of b) ≡ true → CanStep tall climb a b
  passes-can e =
      let p = both (leb (max (stands_at a) (stands_at b) + tall) (min (room_to a) (room_to b))) _ e in
      let q = both (leb (stands_at b) (stands_at a + climb)) _ p.1 in
      record {
        room = leb-true (max (stands_at a) (stands_at b) + tall) (min (room_to a) (room_to b)) p.0;
        up = leb-true (stands_at b) (stands_at a + climb) q.0;
        down = leb-true (stands_at a) (stands_at b + climb) q.1;
      }

  -- an agent 256 high can step nowhere: no floor has that much room
  pub none-so-tall : 256 ≤ tall → CanStep tall climb a b → ⊥
  none-so-tall h k = omega (arith, k.room)

-- ---- the column beside

-- the number of the column to which a step leads is the one that stands in its direction
pub step-beside : (w h d x z x' z' : ℕ) → Step d x z x' z' → x' < w → z' < h → get_or (beside_at w h x z) d none ≡ x' + z' * w
step-beside w h zero x z x' z' s p q =
    let e : x - 1 ≡ x' = omega (arith, s.0) in
    rw (lt-ltb 0 x (omega (arith, s.0)), e, s.1)
step-beside w h (suc zero) x z x' z' s p q =
    let l : z + 1 < h = omega (arith, s.1) in
    rw (lt-ltb (z + 1) h l, s.0, s.1)
step-beside w h (suc (suc zero)) x z x' z' s p q =
    let l : x + 1 < w = omega (arith, s.0) in
    rw (lt-ltb (x + 1) w l, s.0, s.1)
step-beside w h (suc (suc (suc zero))) x z x' z' s p q =
    let e : z - 1 ≡ z' = omega (arith, s.1) in
    rw (lt-ltb 0 z (omega (arith, s.1)), e, s.0)
step-beside w h (suc (suc (suc (suc d)))) x z x' z' s p q = absurd s

-- no step goes in a direction above 3
pub step-direction : (d x z x' z' : ℕ) → Step d x z x' z' → d < 4
step-direction zero x z x' z' s = omega arith
step-direction (suc zero) x z x' z' s = omega arith
step-direction (suc (suc zero)) x z x' z' s = omega arith
step-direction (suc (suc (suc zero))) x z x' z' s = omega arith
step-direction (suc (suc (suc (suc d)))) x z x' z' s = absurd s

-- a column that stands in a direction is reached by a step, and is on the grid
pub record Across (w h x z d k : ℕ) : Type 0 where
  pub x' : ℕ
  pub z' : ℕ
  pub step : Step d x z x' z'
  pub on-grid : (x' < w) × (z' < h)
  pub is : k ≡ x' + z' * w

-- a number that is there if a test holds
if-there : (X : ℕ → Type 0) (a b k : ℕ) → (a < b → X k) → cond (ltb a b) k none ≢ none → X (cond (ltb a b) k none)
if-there X a b k f = by-test (ltb a b) (λ t. rw t (λ n. f (ltb-true a b t))) (λ t. rw t (λ n. absurd (n refl)))

pub beside-step : (w h d x z : ℕ) → x < w → z < h → get_or (beside_at w h x z) d none ≢ none → Across w h x z d (get_or (beside_at w h x z) d none)
beside-step w h zero x z p q n =
    if-there (Across w h x z 0) 0 x (x - 1 + z * w) (λ l. record { x' = x - 1; z' = z; step = (omega arith, refl); on-grid = (omega arith, q); is = refl }) n
beside-step w h (suc zero) x z p q n =
    if-there (Across w h x z 1) (z + 1) h (x + (z + 1) * w) (λ l. record { x' = x; z' = z + 1; step = (refl, refl); on-grid = (p, l); is = refl }) n
beside-step w h (suc (suc zero)) x z p q n =
    if-there (Across w h x z 2) (x + 1) w (x + 1 + z * w) (λ l. record { x' = x + 1; z' = z; step = (refl, refl); on-grid = (l, q); is = refl }) n
beside-step w h (suc (suc (suc zero))) x z p q n =
    if-there (Across w h x z 3) 0 z (x + (z - 1) * w) (λ l. record { x' = x; z' = z - 1; step = (refl, omega arith); on-grid = (p, omega arith); is = refl }) n
beside-step w h (suc (suc (suc (suc d)))) x z p q n = absurd (n refl)
