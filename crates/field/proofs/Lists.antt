-- Laws of lists: lists laid end to end, runs of stores, and the greatest of a list.
use mathlib.Core.Path.{◌≡◌, refl, ap, ◌∙◌}
use mathlib.Core.Logic.{◌⊎◌, inl, inr, ⊎_elim}
use mathlib.Core.List.{List, [], ◌∷◌, ◌++◌, flatten, foldl}
use Prim.Native.Nat.{ℕ, zero, suc, ◌+◌, ◌<◌, ◌≤◌, max}
use native.Mathlib.Omega.{arith}
use native.Mathlib.Nat.{add-zero, not-suc-le-zero, le_of_suc-le-suc}
use native.Mathlib.Decide.{dec_lt}
use lib.ListN.{length, get_or, set, take, drop, length-append, length-set, get_or-append}
use lib.Seq.{sets, get_or-append-add, get_or-set_same, get_or-set_other, set-set, set_comm}
use Rattle.field.proofs.Basics.{by-dec}

-- ---- laid end to end

module _ {A : Type 0} where
  pub flatten-cons : (c : List A) (cs : List (List A)) → length (flatten (c ∷ cs)) ≡ length c + length (flatten cs)
  unfolding flatten
  flatten-cons c cs = length-append c (flatten cs)

  -- one list more
  pub flatten-next : (cs : List (List A)) (i : ℕ) → i < length cs → length (flatten (take (suc i) cs)) ≡ length (flatten (take i cs)) + length (get_or cs i [])
  unfolding flatten
  flatten-next [] i h = absurd (not-suc-le-zero h)
  flatten-next (c ∷ cs) zero h = omega (arith, flatten-cons c [])
  flatten-next (c ∷ cs) (suc i) h =
      omega (arith, flatten-cons c (take (suc i) cs), flatten-cons c (take i cs), flatten-next cs i (le_of_suc-le-suc h))

  -- those before, and those from there on
  pub flatten-split : (cs : List (List A)) (i : ℕ) → length (flatten (take i cs)) + length (flatten (drop i cs)) ≡ length (flatten cs)
  unfolding flatten
  flatten-split [] zero = refl
  flatten-split [] (suc i) = refl
  flatten-split (c ∷ cs) zero = omega arith
  flatten-split (c ∷ cs) (suc i) =
      omega (arith, flatten-cons c (take i cs), flatten-cons c cs, flatten-split cs i)

  pub flatten-at : (d : A) (cs : List (List A)) (i j : ℕ) → i < length cs → j < length (get_or cs i []) → get_or (flatten cs) (length (flatten (take i cs)) + j) d ≡ get_or (get_or cs i []) j d
  unfolding flatten
  flatten-at d [] i j h m = absurd (not-suc-le-zero h)
  flatten-at d (c ∷ cs) zero j h m =
      let e : 0 + j ≡ j = omega arith in
      ap (λ (n : ℕ). get_or (c ++ flatten cs) n d) e ∙ get_or-append c (flatten cs) d j m
  flatten-at d (c ∷ cs) (suc i) j h m =
      let e : length (flatten (take (suc i) (c ∷ cs))) + j ≡ length c + (length (flatten (take i cs)) + j) = omega (arith, flatten-cons c (take i cs)) in
      ap (λ (n : ℕ). get_or (c ++ flatten cs) n d) e
      ∙ get_or-append-add c (flatten cs) (length (flatten (take i cs)) + j) d
      ∙ flatten-at d cs i j (le_of_suc-le-suc h) m

-- ---- runs of stores

module _ {A : Type 0} where
  pub sets-append : (l : List A) (k : ℕ) (xs ys : List A) → sets l k (xs ++ ys) ≡ sets (sets l k xs) (k + length xs) ys
  sets-append l k [] ys = rw (add-zero k)
  sets-append l k (x ∷ xs) ys =
      let e : suc k + length xs ≡ k + suc (length xs) = omega arith in
      sets-append (set l k x) (suc k) xs ys ∙ ap (λ (n : ℕ). sets (sets (set l k x) (suc k) xs) n ys) e

  sets_below : (d : A) (l : List A) (k : ℕ) (vs : List A) (x : ℕ) → x < k → get_or (sets l k vs) x d ≡ get_or l x d
  sets_below d l k [] x h = refl
  sets_below d l k (v ∷ vs) x h = sets_below d (set l k v) (suc k) vs x (omega arith) ∙ get_or-set_other l k x v d (λ e. omega arith)

  -- an entry of a run
  pub sets-at : (d : A) (l : List A) (k : ℕ) (vs : List A) (i : ℕ) → i < length vs → k + length vs ≤ length l → get_or (sets l k vs) (k + i) d ≡ get_or vs i d
  sets-at d l k [] i h r = absurd (not-suc-le-zero h)
  sets-at d l k (v ∷ vs) zero h r =
      let e : k + 0 ≡ k = omega arith in
      ap (λ (n : ℕ). get_or (sets (set l k v) (suc k) vs) n d) e
      ∙ sets_below d (set l k v) (suc k) vs k (omega arith)
      ∙ get_or-set_same l k v d (omega arith)
  sets-at d l k (v ∷ vs) (suc i) h r =
      let e : k + suc i ≡ suc k + i = omega arith in
      ap (λ (n : ℕ). get_or (sets (set l k v) (suc k) vs) n d) e
      ∙ sets-at d (set l k v) (suc k) vs i (le_of_suc-le-suc h) (omega (arith, length-set l k v))

  set-sets : (l : List A) (k i : ℕ) (y : A) (xs : List A) → k < i → set (sets l i xs) k y ≡ sets (set l k y) i xs
  set-sets l k i y [] h = refl
  set-sets l k i y (x ∷ xs) h =
      set-sets (set l i x) k (suc i) y xs (omega arith)
      ∙ ap (λ (s : List A). sets s (suc i) xs) (set_comm l i k x y (λ e. omega arith))

  -- a run over another
  pub sets_over : (l : List A) (k : ℕ) (xs ys : List A) → length xs ≡ length ys → sets (sets l k xs) k ys ≡ sets l k ys
  sets_over l k [] [] h = refl
  sets_over l k [] (y ∷ ys) h = absurd (omega arith)
  sets_over l k (x ∷ xs) [] h = absurd (omega arith)
  sets_over l k (x ∷ xs) (y ∷ ys) h =
      ap (λ (s : List A). sets s (suc k) ys) (set-sets (set l k x) k (suc k) y xs (omega arith) ∙ ap (λ (s : List A). sets s (suc k) xs) (set-set l k x y))
      ∙ sets_over (set l k y) (suc k) xs ys (omega arith)

-- ---- the greatest of a list

max-is : (a b : ℕ) → (max a b ≡ a) ⊎ (max a b ≡ b)
max-is a b = by-dec (dec_lt a b) (λ h. inr (omega arith)) (λ h. inl (omega arith))

-- none is above it
pub greatest-over : (a : ℕ) (xs : List ℕ) → (a ≤ foldl max a xs) × ((i : ℕ) → i < length xs → get_or xs i 0 ≤ foldl max a xs)
greatest-over a [] = (omega arith, λ i h. absurd (not-suc-le-zero h))
greatest-over a (x ∷ xs) = let r = greatest-over (max a x) xs in (omega (arith, r.0), go r.0 r.1)
  where
    go : max a x ≤ foldl max (max a x) xs → ((i : ℕ) → i < length xs → get_or xs i 0 ≤ foldl max (max a x) xs) → (i : ℕ) → i < suc (length xs) → get_or (x ∷ xs) i 0 ≤ foldl max (max a x) xs
    go l f zero h = omega arith
    go l f (suc i) h = f i (le_of_suc-le-suc h)

-- and it is one of them, or what the search began with
pub greatest-at : (a : ℕ) (xs : List ℕ) → (foldl max a xs ≡ a) ⊎ ((i : ℕ) × (i < length xs) × (foldl max a xs ≡ get_or xs i 0))
greatest-at a [] = inl refl
greatest-at a (x ∷ xs) =
    ⊎_elim
    (λ e. ⊎_elim (λ f. inl (e ∙ f)) (λ f. inr (0, omega arith, e ∙ f)) (max-is a x))
    (λ r. inr (suc r.0, omega (arith, r.1), r.2))
    (greatest-at (max a x) xs)
