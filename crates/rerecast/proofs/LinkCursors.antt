-- The cursors of the links: what a look through a cell's layers says of all of them, and that what is behind stays behind while a column is climbed and linked.
use mathlib.Core.Path.{◌≡◌, refl}
use mathlib.Core.Bool.{false, not}
use mathlib.Core.List.{List, [], ◌∷◌}
use Prim.Native.Nat.{ℕ, zero, suc, ◌+◌, ◌≤◌}
use native.Mathlib.Omega.{arith}
use borrow.Author.Tests.{leb-true, leb-false, ltb-true, ltb-false, lt-ltb, le-ltb}
use lib.ListN.{get_or, drop}
use lib.Dec.{leb, ltb}
use Rattle.field.specs.Open.{Open}
use Rattle.field.specs.Links.{passes}
use Rattle.field.specs.Rowing.{NonePasses}
use Rattle.field.proofs.Basics.{by-test}
use Rattle.field.proofs.Joining.{Heights}
use Rattle.rerecast.specs.Compacting.{AllLeft, Looked}
use Rattle.rerecast.specs.declared.links.Look.{Look}
use Rattle.rerecast.specs.declared.sides.Side.{Side}

pub not-leb : (a b : ℕ) → not (leb a b) ≡ ltb b a
not-leb a b =
    by-test (leb a b) (λ t. rw (t, le-ltb b a (leb-true a b t))) (λ t. rw (t, lt-ltb b a (leb-false a b t)))

-- ---- a look

module _ {tall climb : ℕ} {o : Open} {ys ws : List ℕ} {first n : ℕ} {r : Look} (L : Looked tall climb o ys ws first n r) where
  pub none_below : NonePasses ys ws first (passes tall climb o) 0 r.at
  none_below j a b = L.behind j b o (omega arith)

  pub none_at_all : r.passes ≡ false → NonePasses ys ws first (passes tall climb o) 0 n
  none_at_all e j a b = by-test (ltb j r.at) (λ t. none_below j a (ltb-true j r.at t)) (λ t. L.miss e j (ltb-false j r.at t) b)

-- ---- the cells beside

pub none_left : (tall climb y : ℕ) (ys ws : List ℕ) (sides : List Side) (ts : List ℕ) → ((i : ℕ) → get_or ts i 0 ≡ 0) → AllLeft tall climb y ys ws sides ts
none_left tall climb y ys ws [] ts z = tt
none_left tall climb y ys ws (s ∷ ss) ts z =
    (record { few = omega (arith, z 0); behind = λ j h. absurd (omega (arith, z 0)) }, none_left tall climb y ys ws ss (drop 1 ts) (rest ts z))
  where
    rest : (ts : List ℕ) → ((i : ℕ) → get_or ts i 0 ≡ 0) → (i : ℕ) → get_or (drop 1 ts) i 0 ≡ 0
    rest [] z i = refl
    rest (t ∷ ts) z i = z (suc i)

-- at the foot of a column nothing is behind
pub no-cursors : (i : ℕ) → get_or {A = ℕ} (0 ∷ 0 ∷ 0 ∷ 0 ∷ []) i 0 ≡ 0
no-cursors zero = refl
no-cursors (suc zero) = refl
no-cursors (suc (suc zero)) = refl
no-cursors (suc (suc (suc zero))) = refl
no-cursors (suc (suc (suc (suc i)))) = refl

-- higher up, and with other links but the same heights
pub left-on : (tall climb y y' : ℕ) (ys ws ws' : List ℕ) → y ≤ y' → Heights ws' ws → (sides : List Side) (ts : List ℕ) → AllLeft tall climb y ys ws sides ts → AllLeft tall climb y' ys ws' sides ts
left-on tall climb y y' ys ws ws' up h [] ts all = tt
left-on tall climb y y' ys ws ws' up h (s ∷ ss) ts all = (
  record {
    few = all.0.few;
    behind = λ j p o q. rw (h (s.first + j)) (all.0.behind j p o (omega arith));
  },
  left-on tall climb y y' ys ws ws' up h ss (drop 1 ts) all.1,
)
