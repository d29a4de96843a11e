-- Of a snap: what is given after each of its tests, what an answer tells, and the heights of a span.
use mathlib.Core.Path.{◌≡◌, refl, sym, ap, ◌∙◌}
use mathlib.Core.Bool.{Bool, true, false, cond}
use mathlib.Core.List.{List, [], ◌∷◌}
use Prim.Native.Nat.{ℕ, ◌+◌, ◌≤◌, ◌<◌}
use native.Mathlib.Omega.{arith}
use lib.Dec.{eqb}
use lib.Ieee.{Float, lt, mul, binary32}
use borrow.Author.Tests.{eq-eqb, ne_eqb, eqb-false}
use Rattle.replies.specs.Said.{Said, Value, whole, real}
use Rattle.ops.specs.Round.{ceil_to}
use Rattle.ops.specs.Order.{lesser_of}
use Rattle.clip.specs.Cut.{nought}
use Rattle.std.specs.Prelude.{Some, None, Ok, Err}
use Rattle.clip.specs.declared.heights.Heights.{Heights}
use Rattle.clip.specs.Snap.{Snap, low, high, outside, floor_of, ceiling_of, snapped, snap_says, said_of}
use Rattle.clip.proofs.Holds.{held-le, held-ge}

-- ---- two answers that say the same are the same: an answer can be read back from what it says
abbrev span_of : ℕ → ℕ → Snap
span_of floor ceiling = Ok (Some (record { floor = floor; ceiling = ceiling }))

abbrev read_back : Said → Snap
read_back s = read s.number s.values
  where
    read : ℕ → List Value → Snap
    read n [] = cond (eqb n 7) (Err (record {})) (Ok None)
    read n (whole floor ∷ whole ceiling ∷ vs) = span_of floor ceiling
    read n (whole floor ∷ []) = Ok None
    read n (whole floor ∷ real x ∷ vs) = Ok None
    read n (real x ∷ vs) = Ok None

same : (r : Snap) → read_back (said_of r) ≡ r
same (Ok None) = refl
same (Err e) = refl
same (Ok (Some h)) = refl

pub said-once : (a b : Snap) → said_of a ≡ said_of b → a ≡ b
said-once a b e = sym (same a) ∙ ap read_back e ∙ same b

-- what is given for an answer
abbrev pub on_snap : {A : Type 0} → Snap → A → A → (ℕ → ℕ → A) → A
on_snap (Ok None) nothing atTop span = nothing
on_snap (Err e) nothing atTop span = atTop
on_snap (Ok (Some h)) nothing atTop span = span h.floor h.ceiling

-- ---- the tests, one after the other
module _ (largest : ℕ) (lowest highest bottom tall inverse : Float) where
  abbrev floor : ℕ
  floor = floor_of largest lowest highest bottom tall inverse

  abbrev ceiling : ℕ
  ceiling = ceiling_of largest lowest highest bottom tall inverse

  module _ {A : Type 0} (nothing atTop : A) (span : ℕ → ℕ → A) where
    abbrev given : A
    given = snapped largest lowest highest bottom tall inverse nothing atTop span

    pub snap-above : lt (high largest lowest highest bottom tall inverse) nought ≡ true → nothing ≡ given
    unfolding snapped
    snap-above h = rw h

    pub snap-below : lt (high largest lowest highest bottom tall inverse) nought ≡ false → lt tall (low largest lowest highest bottom tall inverse) ≡ true → nothing ≡ given
    unfolding snapped
    snap-below h k = rw (h, k)

    pub snap-top : lt (high largest lowest highest bottom tall inverse) nought ≡ false → lt tall (low largest lowest highest bottom tall inverse) ≡ false → floor ≡ largest → atTop ≡ given
    unfolding snapped
    snap-top h k e = rw (h, k, eq-eqb floor largest e)

    pub snap-span : lt (high largest lowest highest bottom tall inverse) nought ≡ false → lt tall (low largest lowest highest bottom tall inverse) ≡ false → (floor ≡ largest → ⊥) → span floor ceiling ≡ given
    unfolding snapped
    snap-span h k e = rw (h, k, ne_eqb floor largest e)

  pub floor-le : floor ≤ largest
  unfolding floor_of
  floor-le = held-le 0 largest _ (omega arith)

  pub ceiling-le : floor < largest → ceiling ≤ largest
  unfolding ceiling_of
  ceiling-le h = held-le (floor + 1) largest _ (omega arith)

  pub ceiling-above : floor < ceiling
  unfolding ceiling_of
  ceiling-above = omega (arith, held-ge (floor + 1) largest (ceil_to 31 (mul binary32 (lesser_of (high largest lowest highest bottom tall inverse) tall) inverse)))

  -- what holds of nothing, of the top and of every span that has some height and stays below the largest holds of what is given
  pub snapped-all : {A : Type 0} (P : A → Type 0) {nothing atTop : A} {span : ℕ → ℕ → A} → P nothing → P atTop → ((f c : ℕ) → f < c → c ≤ largest → P (span f c))
      → P (snapped largest lowest highest bottom tall inverse nothing atTop span)
  unfolding snapped
  snapped-all P {nothing} {atTop} {span} n t s = go (outside largest lowest highest bottom tall inverse) (eqb floor largest) refl
    where
      go : (a b : Bool) → eqb floor largest ≡ b → P (cond a nothing (cond b atTop (span floor ceiling)))
      go true b k = n
      go false true k = t
      go false false k = s floor ceiling ceiling-above (ceiling-le (omega (arith, floor-le, eqb-false floor largest k)))

  -- what is given passes through any map
  snapped-map : {A B : Type 0} (f : A → B) (nothing atTop : A) (span : ℕ → ℕ → A)
      → f (snapped largest lowest highest bottom tall inverse nothing atTop span) ≡ snapped largest lowest highest bottom tall inverse (f nothing) (f atTop) (λ m n. f (span m n))
  unfolding snapped
  snapped-map f nothing atTop span = go (outside largest lowest highest bottom tall inverse) (eqb floor largest)
    where
      go : (a b : Bool) → f (cond a nothing (cond b atTop (span floor ceiling))) ≡ cond a (f nothing) (cond b (f atTop) (f (span floor ceiling)))
      go true b = refl
      go false true = refl
      go false false = refl

  -- ---- what an answer of `snap_of` tells its caller
  module _ (r : Snap) (says : said_of r ≡ snap_says largest lowest highest bottom tall inverse) where
    pub snap-is : r ≡ snapped largest lowest highest bottom tall inverse (Ok None) (Err (record {})) span_of
    snap-is = sym (same r) ∙ ap read_back says ∙ snapped-map read_back _ _ _

    pub snap-tells : {A : Type 0} (nothing atTop : A) (span : ℕ → ℕ → A) → on_snap r nothing atTop span ≡ snapped largest lowest highest bottom tall inverse nothing atTop span
    snap-tells nothing atTop span = ap (λ (s : Snap). on_snap s nothing atTop span) snap-is ∙ snapped-map (λ s. on_snap s nothing atTop span) _ _ _

    -- a span has some height, and stays below the largest
    pub span-heights : (h : Heights) → r ≡ Ok (Some h) → (h.floor < h.ceiling) × (h.ceiling ≤ largest)
    span-heights h e =
        snapped-all (λ s. s ≡ Ok (Some h) → (h.floor < h.ceiling) × (h.ceiling ≤ largest))
        (λ q. let z : ◌≡◌ {A = ℕ} 0 1 = cc in absurd (omega arith))
        (λ q. let z : ◌≡◌ {A = ℕ} 0 1 = cc in absurd (omega arith))
        (λ floor ceiling k m q.
        let heights : record { floor = floor; ceiling = ceiling } ≡ h = cc in
        let u : floor ≡ h.floor = ap (λ (g : Heights). g.floor) heights in
        let v : ceiling ≡ h.ceiling = ap (λ (g : Heights). g.ceiling) heights in
        (omega arith, omega arith))
        (sym snap-is ∙ e)
