-- The test for a ledge says what the rules say: `ledge` is true where `Ledge` holds, and false where it does not.
use mathlib.Core.Path.{◌≡◌, refl}
use mathlib.Core.Logic.{◌⊎◌, inl, inr, ◌↔◌, ⊎_elim}
use mathlib.Core.Bool.{Bool, true, false, ◌||◌}
use mathlib.Core.List.{List, [], ◌∷◌, foldl}
use Prim.Native.Nat.{ℕ, ◌+◌, ◌<◌, ◌≤◌, min, max}
use native.Mathlib.Omega.{arith}
use borrow.Author.Tests.{ltb-true, ltb-false, leb-true, leb-false, eqb-true, eqb-false}
use lib.Dec.{ltb, leb, eqb}
use Rattle.field.specs.declared.Span.{Span}
use Rattle.field.specs.Slots.{none}
use Rattle.field.specs.Inner.{Says}
use Rattle.field.specs.Walkable.{roof}
use Rattle.field.specs.Ledges.{Stand, Some, Roomy, Gap, Drop, Near, Step, Steep, Ledge}
use Rattle.field.specs.LedgeTest.{some, gap, roomy, View, view, outset, seen, looked, looked_at, tells, ledge}
use Rattle.field.proofs.Basics.{by-test, says_if, says-iff}

-- ---- tests and what they say

says-or : (P Q : Type 0) (a b : Bool) → Says a P → Says b Q → Says (a || b) (P ⊎ Q)
says-or P Q true b p q = inl p
says-or P Q false true p q = inr q
says-or P Q false false p q = ⊎_elim p q

says-leb : (a b : ℕ) → Says (leb a b) (a ≤ b)
says-leb a b = says_if (leb a b) (leb-true a b) (λ e l. omega (arith, leb-false a b e))

says-ltb : (a b : ℕ) → Says (ltb a b) (a < b)
says-ltb a b = says_if (ltb a b) (ltb-true a b) (λ e l. omega (arith, ltb-false a b e))

says-eqb : (a b : ℕ) → Says (eqb a b) (a ≡ b)
says-eqb a b = says_if (eqb a b) (eqb-true a b) (eqb-false a b)

-- some column: the first, or one of the others
some-cons : (P : ℕ → Type 0) (k : ℕ) (ks : List ℕ) → (P k ⊎ Some P ks) ↔ Some P (k ∷ ks)
some-cons P k ks = (
  ⊎_elim (λ p. (k, inl refl, p)) (λ s. (s.0, inr s.1, s.2)),
  λ s. ⊎_elim (λ e. inl (rw e at s.2)) (λ i. inr (s.0, i, s.2)) s.1,
)

some-says : (P : ℕ → Type 0) (p : ℕ → Bool) (ks : List ℕ) → ((k : ℕ) → Says (p k) (P k)) → Says (some p ks) (Some P ks)
some-says P p [] h = λ s. s.1
some-says P p (k ∷ ks) h =
    let e = some-cons P k ks in
    says-iff (p k || some p ks) e.0 e.1 (says-or (P k) (Some P ks) (p k) (some p ks) (h k) (some-says P p ks h))

-- ---- what a view tells

-- the least and the greatest of the numbers that are so
pub record Bounds (L : ℕ → Type 0) (low high : ℕ) : Type 0 where
  pub least : L low
  pub greatest : L high
  pub between : (n : ℕ) → L n → (low ≤ n) × (n ≤ high)

-- there was a drop, or else the bounds are those of all that can be stepped to
abbrev Told : Bool → Type 0 → (ℕ → Type 0) → ℕ → ℕ → Type 0
Told true D L low high = D
Told false D L low high = (D → ⊥) × Bounds L low high

abbrev Tells : Type 0 → (ℕ → Type 0) → View → Type 0
Tells D L v = Told v.drop D L v.low v.high

told-iff : {D D' : Type 0} {L L' : ℕ → Type 0} (b : Bool) (low high : ℕ) → D ↔ D' → ((n : ℕ) → L n ↔ L' n) → Told b D L low high → Told b D' L' low high
told-iff true low high d l t = d.0 t
told-iff false low high d l t = (
  λ x. t.0 (d.1 x),
  record {
    least = (l low).0 t.1.least;
    greatest = (l high).0 t.1.greatest;
    between = λ n x. t.1.between n ((l n).1 x);
  },
)

-- one number more
more-bounds : {L : ℕ → Type 0} (n low high : ℕ) → Bounds L low high → Bounds (λ m. L m ⊎ (m ≡ n)) (min low n) (max high n)
more-bounds {L} n low high b =
    record {
      least = by-test (ltb n low) (λ t. inr (omega (arith, ltb-true n low t))) (λ t. inl (rw (min-left (ltb-false n low t)) b.least));
      greatest = by-test (ltb high n) (λ t. inr (omega (arith, ltb-true high n t))) (λ t. inl (rw (max-left (ltb-false high n t)) b.greatest));
      between = λ m. ⊎_elim (λ l. let k = b.between m l in (omega (arith, k.0), omega (arith, k.1))) (λ e. (omega arith, omega arith));
    }
  where
    min-left : low ≤ n → min low n ≡ low
    min-left l = omega arith

    max-left : n ≤ high → max high n ≡ high
    max-left l = omega arith

-- what one span adds: a drop, or a number that can be stepped to
abbrev Falls : Stand → ℕ → ℕ → Type 0
Falls st n c = Roomy st n c × (n + st.climb < st.top)

abbrev Steps : Stand → ℕ → ℕ → Type 0
Steps st n c = Roomy st n c × ((st.top ≤ n + st.climb) × (n ≤ st.top + st.climb))

-- an alternative that never holds adds nothing
none-iff : {B : Type 0} (A : Type 0) → (B → ⊥) → A ↔ (A ⊎ B)
none-iff A never = (inl, ⊎_elim (λ a. a) (λ b. absurd (never b)))

module _ (st : Stand) (n c : ℕ) (D : Type 0) (L : ℕ → Type 0) where
  abbrev D₊ : Type 0
  D₊ = D ⊎ Falls st n c

  abbrev L₊ : ℕ → Type 0
  L₊ m = L m ⊎ ((m ≡ n) × Steps st n c)

  told-nothing : (low high : ℕ) → (Falls st n c → ⊥) → (Steps st n c → ⊥) → Told false D L low high → Told false D₊ L₊ low high
  told-nothing low high f s t = told-iff false low high (none-iff D f) (λ m. none-iff (L m) (λ x. s x.1)) t

  told-step : (low high : ℕ) → (Falls st n c → ⊥) → Steps st n c → Told false D L low high → Told false D₊ L₊ (min low n) (max high n)
  told-step low high f s t =
      told-iff false (min low n) (max high n) (none-iff D f) (λ m. (⊎_elim inl (λ e. inr (e, s)), ⊎_elim inl (λ x. inr x.0)))
      (t.0, more-bounds n low high t.1)

  told-seen : (b : Bool) (low high : ℕ) → Told b D L low high → Tells D₊ L₊ (seen st n c (view b low high))
  told-seen true low high t = inl t
  told-seen false low high t =
      by-test (roomy st n c)
      (λ r.
      let room = leb-true (max st.top n + st.height) (min st.roof c) r in
      by-test (ltb (n + st.climb) st.top) (λ a. rw (r, a) (inr (room, ltb-true (n + st.climb) st.top a)))
      (λ a.
      let down = ltb-false (n + st.climb) st.top a in
      by-test (leb n (st.top + st.climb)) (λ u. rw (r, a, u) (told-step low high (λ x. omega (arith, x.1)) (room, (down, leb-true n (st.top + st.climb) u)) t))
      (λ u.
      let up = leb-false n (st.top + st.climb) u in
      rw (r, a, u) (told-nothing low high (λ x. omega (arith, x.1)) (λ x. omega (arith, x.1.1)) t))))
      (λ r.
      let shut = leb-false (max st.top n + st.height) (min st.roof c) r in
      rw r (told-nothing low high (λ x. omega (arith, x.0)) (λ x. omega (arith, x.0)) t))

-- ---- column by column

-- alternatives taken together
join-iff : {B C E : Type 0} (A : Type 0) → (B ⊎ C) ↔ E → ((A ⊎ B) ⊎ C) ↔ (A ⊎ E)
join-iff A e = (
  ⊎_elim (⊎_elim inl (λ b. inr (e.0 (inl b)))) (λ c. inr (e.0 (inr c))),
  ⊎_elim (λ a. inl (inl a)) (λ x. ⊎_elim (λ b. inl (inr b)) inr (e.1 x)),
)

module _ (st : Stand) (s : Span) (ss : List Span) where
  drop-cons : (Falls st s.ceiling (roof ss) ⊎ Drop st ss) ↔ Drop st (s ∷ ss)
  drop-cons = (
    ⊎_elim (λ x. (s.ceiling, roof ss, (inl (refl, refl), x.0, x.1))) (λ x. (x.0, x.1, (inr x.2.0, x.2.1, x.2.2))),
    λ x.
        ⊎_elim (λ e. inl (rw (e.0, e.1) at x.2.1, rw e.0 at x.2.2)) (λ h. inr (x.0, x.1, (h, x.2.1, x.2.2))) x.2.0,
  )

  near-cons : (m : ℕ) → (((m ≡ s.ceiling) × Steps st s.ceiling (roof ss)) ⊎ Near st ss m) ↔ Near st (s ∷ ss) m
  near-cons m = (
    ⊎_elim (λ x. (roof ss, (inl (x.0, refl), rw x.0 x.1.0, rw x.0 x.1.1))) (λ x. (x.0, (inr x.1.0, x.1.1, x.1.2))),
    λ x.
        ⊎_elim (λ e. inl (e.0, (rw (e.0, e.1) at x.1.1, rw e.0 at x.1.2))) (λ h. inr (x.0, (h, x.1.1, x.1.2))) x.1.0,
  )

told-looked : (st : Stand) (D : Type 0) (L : ℕ → Type 0) (v : View) (ss : List Span) → Tells D L v → Tells (D ⊎ Drop st ss) (λ m. L m ⊎ Near st ss m) (looked st v ss)
told-looked st D L v [] t =
    told-iff v.drop v.low v.high (none-iff D (λ x. x.2.0)) (λ m. none-iff (L m) (λ x. x.1.0)) t
told-looked st D L v (s ∷ ss) t =
    let n = s.ceiling in
    let c = roof ss in
    let w = looked st (seen st n c v) ss in
    told-iff w.drop w.low w.high (join-iff D (drop-cons st s ss)) (λ m. join-iff (L m) (near-cons st s ss m))
    (told-looked st (D ⊎ Falls st n c) (λ m. L m ⊎ ((m ≡ n) × Steps st n c)) (seen st n c v) ss (told-seen st n c D L v.drop v.low v.high t))

told-all : (st : Stand) (at : ℕ → List Span) (D : Type 0) (L : ℕ → Type 0) (v : View) (ks : List ℕ) → Tells D L v → Tells (D ⊎ Some (λ k. Drop st (at k)) ks) (λ m. L m ⊎ Some (λ k. Near st (at k) m) ks) (foldl (λ v k. looked st v (at k)) v ks)
told-all st at D L v [] t =
    told-iff v.drop v.low v.high (none-iff D (λ x. x.1)) (λ m. none-iff (L m) (λ x. x.1)) t
told-all st at D L v (k ∷ ks) t =
    let w = foldl (λ v k. looked st v (at k)) (looked st v (at k)) ks in
    told-iff w.drop w.low w.high (join-iff D (some-cons (λ k. Drop st (at k)) k ks)) (λ m. join-iff (L m) (some-cons (λ k. Near st (at k) m) k ks))
    (told-all st at (D ⊎ Drop st (at k)) (λ m. L m ⊎ Near st (at k) m) (looked st v (at k)) ks (told-looked st D L v (at k) t))

-- ---- the whole test

module _ (st : Stand) (at : ℕ → List Span) (ks : List ℕ) where
  view-says : (b : Bool) (low high : ℕ) → Told b (⊥ ⊎ Some (λ k. Drop st (at k)) ks) (Step st at ks) low high → Says (b || ltb (low + st.climb) high) (Some (λ k. Drop st (at k)) ks ⊎ Steep st at ks)
  view-says true low high t = ⊎_elim absurd inl t
  view-says false low high t =
      let b = t.1 in
      says_if (ltb (low + st.climb) high) (λ e. inr (low, high, (b.least, b.greatest, ltb-true (low + st.climb) high e)))
      (λ e.
      ⊎_elim (λ d. t.0 (inr d))
      (λ s. omega (arith, ltb-false (low + st.climb) high e, b.between s.0 s.2.0, b.between s.1 s.2.1, s.2.2)))

  tells-says : Says (tells st (looked_at st at ks)) (Some (λ k. Drop st (at k)) ks ⊎ Steep st at ks)
  tells-says =
      let v = looked_at st at ks in
      view-says v.drop v.low v.high
      (told-all st at ⊥ (λ m. m ≡ st.top) (outset st) ks (λ x. x, record { least = refl; greatest = refl; between = λ n e. (omega arith, omega arith) }))

  -- The test is true exactly at a ledge.
  pub ledge-says : Says (ledge st at ks) (Ledge st at ks)
  ledge-says =
      let gaps = some-says (λ k. Gap st (at k)) (λ k. gap st (at k)) ks (λ k. says-leb (st.top + st.height) (min st.roof (roof (at k)))) in
      says-or (Some (λ k. k ≡ none) ks) _ (some (λ k. eqb k none) ks) _ (some-says (λ k. k ≡ none) (λ k. eqb k none) ks (λ k. says-eqb k none))
      (says-or (Some (λ k. Gap st (at k)) ks) _ (some (λ k. gap st (at k)) ks) _ gaps tells-says)
