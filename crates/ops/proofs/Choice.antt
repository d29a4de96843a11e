-- The lesser and the greater of two floats: each is one of the two, and where neither is NaN it is on the right side of both.
use Rattle.std.proofs.Common.{◌≡◌, ℕ, ◌*◌, Bool, true, false, cond, not, ◌||◌, ◌⊎◌, sym, refl, ap, ◌∙◌, inl, inr, le_refl, le-ltb}
use lib.Ieee.{Float, nan, inf, fin, up, down, below, lt, le, eq, is_nan}
use Rattle.ops.specs.Order.{lesser_of, greater_of}
use Rattle.ops.proofs.Order.{le_total}

-- ---- the order

not-below-itself : (s : Bool) (n : ℕ) → below s n s n ≡ false
not-below-itself true n = le-ltb n n (le_refl n)
not-below-itself false n = le-ltb n n (le_refl n)

lt-itself : (x : Float) → lt x x ≡ false
unfolding lt
lt-itself nan = refl
lt-itself (inf true) = refl
lt-itself (inf false) = refl
lt-itself (fin s m e) = not-below-itself s (m * up e * down e)

pub le_itself : (x : Float) → is_nan x ≡ false → le x x ≡ true
le_itself x p = le_total x x p p ∙ ap not (lt-itself x)

pub le_of_lt : (x y : Float) → lt x y ≡ true → le x y ≡ true
unfolding le
le_of_lt x y h = ap (λ (t : Bool). t || eq x y) h

pub le_of_not_lt : (x y : Float) → is_nan x ≡ false → is_nan y ≡ false → lt y x ≡ false → le x y ≡ true
le_of_not_lt x y p q h = le_total x y p q ∙ ap not h

-- ---- the choice

pub second : (t : Bool) (a b : Float) → t ≡ true → b ≡ cond t b a
second t a b h = ap (λ (t : Bool). cond t b a) (sym h)

pub first : (t : Bool) (a b : Float) → t ≡ false → a ≡ cond t b a
first t a b h = ap (λ (t : Bool). cond t b a) (sym h)

one_of : (t : Bool) (a b : Float) → (cond t b a ≡ a) ⊎ (cond t b a ≡ b)
one_of true a b = inr refl
one_of false a b = inl refl

pub lesser-one : (a b : Float) → (lesser_of a b ≡ a) ⊎ (lesser_of a b ≡ b)
unfolding lesser_of
lesser-one a b = one_of (lt b a) a b

pub greater-one : (a b : Float) → (greater_of a b ≡ a) ⊎ (greater_of a b ≡ b)
unfolding greater_of
greater-one a b = one_of (lt a b) a b

module _ (a b : Float) (p : is_nan a ≡ false) (q : is_nan b ≡ false) where
  pub lesser-below : (le (lesser_of a b) a ≡ true) × (le (lesser_of a b) b ≡ true)
  unfolding lesser_of
  lesser-below = go (lt b a) refl
    where
      go : (t : Bool) → lt b a ≡ t → (le (cond t b a) a ≡ true) × (le (cond t b a) b ≡ true)
      go true h = (le_of_lt b a h, le_itself b q)
      go false h = (le_itself a p, le_of_not_lt a b p q h)

  pub greater-above : (le a (greater_of a b) ≡ true) × (le b (greater_of a b) ≡ true)
  unfolding greater_of
  greater-above = go (lt a b) refl
    where
      go : (t : Bool) → lt a b ≡ t → (le a (cond t b a) ≡ true) × (le b (cond t b a) ≡ true)
      go true h = (le_of_lt a b h, le_itself b q)
      go false h = (le_itself a p, le_of_not_lt b a q p h)
