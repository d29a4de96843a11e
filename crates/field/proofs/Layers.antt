-- Looking through the layers of a cell, as the rows show them, from the lowest up.
use mathlib.Core.Path.{◌≡◌, refl, sym, ap, ap₂, ◌∙◌}
use mathlib.Core.Bool.{Bool, true, false, cond}
use mathlib.Core.List.{List, [], ◌∷◌, map}
use Prim.Native.Nat.{ℕ, zero, suc, ◌+◌, ◌-◌, ◌<◌, ◌≤◌, min}
use native.Mathlib.Omega.{arith}
use native.Mathlib.Nat.{not-suc-le-zero, le_of_suc-le-suc}
use native.Mathlib.Numerals.{add-one}
use borrow.Author.Tests.{ne_eqb, ltb-true, ltb-false}
use lib.ListN.{length, take, drop, drop_of_length-le}
use lib.Dec.{ltb}
use Rattle.compact_span.specs.Word.{empty_mark}
use Rattle.field.specs.Open.{Open}
use Rattle.field.specs.Links.{passes, lowest, largest, link, missed}
use Rattle.field.specs.Rowing.{shown_at, shown, bare, NonePasses}
use Rattle.field.proofs.Basics.{by-test}

-- ---- the layers from `l` on, of `n` from place `k` on

module _ (ys ws : List ℕ) where
  shown-step : (k n : ℕ) → 0 < n → shown ys ws k n ≡ shown_at ys ws k ∷ shown ys ws (suc k) (n - 1)
  shown-step k zero h = absurd (not-suc-le-zero h)
  shown-step k (suc n) h = let e : n ≡ suc n - 1 = omega arith in ap (λ (m : ℕ). shown_at ys ws k ∷ shown ys ws (suc k) m) e

  shown-take : (k m n : ℕ) → shown ys ws k (min m n) ≡ take m (shown ys ws k n)
  shown-take k zero n = ap (shown ys ws k) (let e : min 0 n ≡ 0 = omega arith in e)
  shown-take k (suc m) zero = ap (shown ys ws k) (let e : min (suc m) 0 ≡ 0 = omega arith in e)
  shown-take k (suc m) (suc n) =
      let e : min (suc m) (suc n) ≡ suc (min m n) = omega arith in
      ap (shown ys ws k) e ∙ ap (λ (l : List Open). shown_at ys ws k ∷ l) (shown-take (suc k) m n)

  shown-drop : (k m n : ℕ) → m ≤ n → shown ys ws (k + m) (n - m) ≡ drop m (shown ys ws k n)
  shown-drop k zero n h =
      let a : k + 0 ≡ k = omega arith in
      let b : n - 0 ≡ n = omega arith in
      ap₂ (shown ys ws) a b
  shown-drop k (suc m) zero h = absurd (not-suc-le-zero h)
  shown-drop k (suc m) (suc n) h =
      let a : k + suc m ≡ suc k + m = omega arith in
      let b : suc n - suc m ≡ n - m = omega arith in
      ap₂ (shown ys ws) a b ∙ shown-drop (suc k) m n (le_of_suc-le-suc h)

  shown-length : (k n : ℕ) → length (shown ys ws k n) ≡ n
  shown-length k zero = refl
  shown-length k (suc n) = ap suc (shown-length (suc k) n)

  -- the layers left from `l` on
  abbrev pub rest : ℕ → ℕ → ℕ → List Open
  rest k n l = shown ys ws (k + l) (n - l)

  module _ (k n : ℕ) where
    pub rest-start : rest k n 0 ≡ shown ys ws k n
    rest-start = shown-drop k 0 n (omega arith)

    rest-cons : (l : ℕ) → l < n → rest k n l ≡ shown_at ys ws (k + l) ∷ rest k n (l + 1)
    rest-cons l h =
        let a : suc (k + l) ≡ k + (l + 1) = omega arith in
        let b : n - l - 1 ≡ n - (l + 1) = omega arith in
        shown-step (k + l) (n - l) (omega arith) ∙ ap₂ (λ (a b : ℕ). shown_at ys ws (k + l) ∷ shown ys ws a b) a b

    rest_end : (l : ℕ) → n ≤ l → rest k n l ≡ []
    rest_end l h = ap (shown ys ws (k + l)) (let z : n - l ≡ 0 = omega arith in z)

    module _ (pass : Open → Bool) (l : ℕ) where
      pub lowest-hit : l < n → pass (shown_at ys ws (k + l)) ≡ true → lowest pass l (rest k n l) ≡ l
      lowest-hit h e = rw (rest-cons l h, e)

      pub lowest-miss : l < n → pass (shown_at ys ws (k + l)) ≡ false → lowest pass l (rest k n l) ≡ lowest pass (l + 1) (rest k n (l + 1))
      lowest-miss h e = ap (lowest pass l) (rest-cons l h) ∙ rw e (ap (λ (m : ℕ). lowest pass m (rest k n (l + 1))) (sym (add-one l)))

      pub lowest-end : n ≤ l → lowest pass l (rest k n l) ≡ empty_mark
      lowest-end h = rw (rest_end l h)

      pub largest-next : (best : ℕ) → l < n → largest pass best l (rest k n l) ≡ largest pass (cond (pass (shown_at ys ws (k + l))) l best) (l + 1) (rest k n (l + 1))
      largest-next best h =
          ap (largest pass best l) (rest-cons l h)
          ∙ ap (λ (m : ℕ). largest pass (cond (pass (shown_at ys ws (k + l))) l best) m (rest k n (l + 1))) (sym (add-one l))

      pub largest-end : (best : ℕ) → n ≤ l → largest pass best l (rest k n l) ≡ best
      largest-end best h = rw (rest_end l h)

  -- ---- layers that do not pass

  module _ (k : ℕ) (pass : Open → Bool) where
    pub lowest-skip : (n l : ℕ) → l ≤ n → NonePasses ys ws k pass 0 l → lowest pass l (rest k n l) ≡ lowest pass 0 (shown ys ws k n)
    lowest-skip n zero h none = ap (lowest pass 0) (rest-start k n)
    lowest-skip n (suc l) h none =
        rw (← add-one l) (sym (lowest-miss k n pass l h (none l (omega arith) (omega arith))))
        ∙ lowest-skip n l (omega arith) (λ j a b. none j a (omega arith))

    pub largest-skip : (best n m d : ℕ) → m + d ≤ n → NonePasses ys ws k pass m (m + d) → largest pass best (m + d) (rest k n (m + d)) ≡ largest pass best m (rest k n m)
    largest-skip best n m zero h none =
        let e : m + 0 ≡ m = omega arith in
        ap (λ (l : ℕ). largest pass best l (rest k n l)) e
    largest-skip best n m (suc d) h none =
        let e : m + suc d ≡ m + d + 1 = omega arith in
        ap (λ (l : ℕ). largest pass best l (rest k n l)) e
        ∙ sym (rw (none (m + d) (omega arith) (omega arith)) at (largest-next k n pass (m + d) best (omega arith)))
        ∙ largest-skip best n m d (omega arith) (λ j a b. none j a (omega arith))

    -- up to the end
    pub largest-none : (best n m : ℕ) → m ≤ n → NonePasses ys ws k pass m n → largest pass best m (rest k n m) ≡ best
    largest-none best n m h none =
        let e : m + (n - m) ≡ n = omega arith in
        sym (largest-skip best n m (n - m) (omega arith) (λ j a b. none j a (omega arith)))
        ∙ ap (λ (l : ℕ). largest pass best l (rest k n l)) e
        ∙ largest-end k n pass n best (omega arith)

  -- ---- what that makes of a cell's link and missed layer

  module _ (k n : ℕ) (pass : Open → Bool) where
    link-shown : lowest pass 0 (shown ys ws k (min 62 n)) ≡ link pass (shown ys ws k n)
    link-shown = ap (lowest pass 0) (shown-take k 62 n)

    -- the first layer that passes is the link, if one may go to it
    pub link-first : (l : ℕ) → l < n → l < 62 → NonePasses ys ws k pass 0 l → pass (shown_at ys ws (k + l)) ≡ true → l ≡ link pass (shown ys ws k n)
    link-first l h few none e =
        sym (lowest-hit k (min 62 n) pass l (omega arith) e) ∙ lowest-skip k pass (min 62 n) l (omega arith) none ∙ link-shown

    pub link-none : NonePasses ys ws k pass 0 (min 62 n) → empty_mark ≡ link pass (shown ys ws k n)
    link-none none =
        sym (lowest-end k (min 62 n) pass (min 62 n) (omega arith)) ∙ lowest-skip k pass (min 62 n) (min 62 n) (omega arith) none ∙ link-shown

    pub missed-linked : {v : ℕ} → v ≡ link pass (shown ys ws k n) → v < 62 → 0 ≡ missed pass (shown ys ws k n)
    missed-linked {v} e m = rw (← e, ne_eqb v empty_mark (λ q. omega arith))

    pub missed-shown : {o : ℕ} → empty_mark ≡ link pass (shown ys ws k n) → 63 ≤ n → o ≡ largest pass 0 63 (shown ys ws (k + 63) (n - 63)) → o ≡ missed pass (shown ys ws k n)
    missed-shown {o} e h eo =
        let f : o ≡ largest pass 0 63 (drop 63 (shown ys ws k n)) = eo ∙ ap (largest pass 0 63) (shown-drop k 63 n h) in
        rw (← e, f)

    missed-short : empty_mark ≡ link pass (shown ys ws k n) → n < 63 → 0 ≡ missed pass (shown ys ws k n)
    missed-short e h = rw (← e, drop_of_length-le (shown ys ws k n) {i = 63} (omega (arith, shown-length k n)))

    pub missed-none : NonePasses ys ws k pass 0 n → 0 ≡ missed pass (shown ys ws k n)
    missed-none none =
        let e = link-none (λ j a b. none j a (omega arith)) in
        by-test (ltb n 63) (λ t. missed-short e (ltb-true n 63 t))
        (λ t.
        let h : 63 ≤ n = ltb-false n 63 t in
        missed-shown e h (sym (largest-none k pass 0 n 63 h (λ j a b. none j (omega arith) b))))

-- ---- the tests look at no area

module _ (tall climb : ℕ) (o : Open) where
  lowest-bare : (l m : ℕ) (ns : List Open) → lowest (passes tall climb o) l (take m (map bare ns)) ≡ lowest (passes tall climb o) l (take m ns)
  lowest-bare l zero ns = refl
  lowest-bare l (suc m) [] = refl
  lowest-bare l (suc m) (n ∷ ns) = ap (cond (passes tall climb o n) l) (lowest-bare (suc l) m ns)

  largest-bare : (best l : ℕ) (ns : List Open) → largest (passes tall climb o) best l (map bare ns) ≡ largest (passes tall climb o) best l ns
  largest-bare best l [] = refl
  largest-bare best l (n ∷ ns) = largest-bare (cond (passes tall climb o n) l best) (suc l) ns

  largest-drop : (best l m : ℕ) (ns : List Open) → largest (passes tall climb o) best l (drop m (map bare ns)) ≡ largest (passes tall climb o) best l (drop m ns)
  largest-drop best l zero ns = largest-bare best l ns
  largest-drop best l (suc m) [] = refl
  largest-drop best l (suc m) (n ∷ ns) = largest-drop best l m ns

  pub link-bare : (ns : List Open) → link (passes tall climb o) (map bare ns) ≡ link (passes tall climb o) ns
  link-bare ns = lowest-bare 0 62 ns

  pub missed-bare : (ns : List Open) → missed (passes tall climb o) (map bare ns) ≡ missed (passes tall climb o) ns
  missed-bare ns = rw (link-bare ns, largest-drop 0 63 63 ns)
