-- An accepted span keeps that a column lists the stretches of what was accepted there.
use mathlib.Core.Path.{◌≡◌, refl}
use mathlib.Core.Logic.{◌⊎◌, inl, inr, ⊎_elim}
use mathlib.Core.List.{List, [], ◌∷◌}
use Prim.Native.Nat.{ℕ, suc, ◌<◌, ◌≤◌}
use native.Mathlib.Omega.{arith}
use native.Mathlib.Decide.{dec_le}
use borrow.Author.Tests.{ltb-true, ltb-false}
use lib.Dec.{ltb}
use Rattle.field.specs.Spans.{Range, Ascends}
use Rattle.field.specs.Stretches.{In, Shares, Linked, Within}
use Rattle.field.proofs.Basics.{by-test, by-dec}
use Rattle.field.proofs.Walking.{cover, insert_range, insert-ascends, asc-in, asc-lower}

-- ---- chains

linked-more : {A : List Range} {n a c : Range} → Linked A a c → Linked (n ∷ A) a c
linked-more Linked.same = Linked.same
linked-more (Linked.next i s l) = Linked.next (inr i) s (linked-more l)

pub linked-trans : {A : List Range} {a b c : Range} → Linked A a b → Linked A b c → Linked A a c
linked-trans Linked.same k = k
linked-trans (Linked.next i s l) k = Linked.next i s (linked-trans l k)

pub linked-sym : {A : List Range} {a c : Range} → In a A → Linked A a c → Linked A c a
linked-sym i Linked.same = Linked.same
linked-sym i (Linked.next {b = b} j s l) = linked-trans (linked-sym j l) (Linked.next i (s.1, s.0) Linked.same)

-- ---- columns that cover what was accepted

-- a height of a range
abbrev pub Has : Range → ℕ → Type 0
Has a h = (a.floor ≤ h) × (h ≤ a.ceiling)

-- each height is one of a range in it, and the ranges in it are joined with each other
pub record Solid (A : List Range) (s : Range) : Type 0 where
  pub full : (h : ℕ) → Has s h → (a : Range) × In a A × Within a s × Has a h
  pub joins : (a b : Range) → In a A → In b A → Within a s → Within b s → Linked A a b

-- the column `L` is solid throughout, and each of `A` is within it
pub record Covers (A L : List Range) : Type 0 where
  pub ascends : Ascends 0 L
  pub ordered : (a : Range) → In a A → a.floor ≤ a.ceiling
  pub home : (a : Range) → In a A → (s : Range) × In s L × Within a s
  pub solid : (s : Range) → In s L → Solid A s

pub covers-none : Covers [] []
covers-none = record { ascends = tt; ordered = λ a i. absurd i; home = λ a i. absurd i; solid = λ s i. absurd i }

-- ---- a range that has taken in others of the column

-- each height of the widened range is one of a range that is joined with the new one
abbrev Reach : List Range → Range → Range → Type 0
Reach A new w = (h : ℕ) → Has w h → (a : Range) × In a A × Within a w × Has a h × Linked A a new

reach-start : (A : List Range) (new : Range) → Reach (new ∷ A) new new
reach-start A new h k = (new, inl refl, (omega arith, omega arith), k, Linked.same)

module _ (A : List Range) (new w s : Range) (R : Reach (new ∷ A) new w) (S : Solid A s) (touch : Shares w s) (ow : w.floor ≤ w.ceiling) (os : s.floor ≤ s.ceiling) where
  -- a height that both have
  common : (h : ℕ) × Has w h × Has s h
  common =
      by-dec (dec_le w.floor s.floor) (λ l. (s.floor, (omega arith, omega arith), (omega arith, omega arith)))
      (λ l. (w.floor, (omega arith, omega arith), (omega arith, omega arith)))

  -- what is in the touched one is joined with the new one
  touch-linked : (c : Range) → In c A → Within c s → Linked (new ∷ A) c new
  touch-linked c i n =
      let k = common in
      let a = R k.0 k.1 in
      let b = S.full k.0 k.2 in
      linked-trans (linked-more (S.joins c b.0 i b.1 n b.2))
      (Linked.next a.1 (omega (arith, a.3, b.3), omega (arith, a.3, b.3)) a.4)

  reach_step : Reach (new ∷ A) new (cover w s)
  reach_step h k =
      by-dec (dec_le w.floor h)
      (λ l.
      by-dec (dec_le h w.ceiling)
      (λ m. let a = R h (l, m) in (a.0, a.1, (omega (arith, a.2), omega (arith, a.2)), a.3, a.4))
      (λ m. from_old (omega (arith, k), omega (arith, k))))
      (λ l. from_old (omega (arith, k), omega (arith, k)))
    where
      from_old : Has s h → (a : Range) × In a (new ∷ A) × Within a (cover w s) × Has a h × Linked (new ∷ A) a new
      from_old q =
          let b = S.full h q in
          (b.0, inr b.1, (omega (arith, b.2), omega (arith, b.2)), b.3, touch-linked b.0 b.1 b.2)

abbrev Apart : Range → Range → Type 0
Apart a b = (a.ceiling < b.floor) ⊎ (b.ceiling < a.floor)

-- what inserting the range `w`, which has come of `new`, makes of the part `L` of a column that is left
record Inserted (A : List Range) (new : Range) (b : ℕ) (w : Range) (L R : List Range) : Type 0 where
  top : Range
  there : In top R
  under : b ≤ top.floor
  covers : Within w top
  reach : Reach (new ∷ A) new top
  old : (j : Range) → In j R → (j ≡ top) ⊎ (In j L × Apart j top)
  kept : (j : Range) → In j L → (In j R × Apart j top) ⊎ (Within j top × ((c : Range) → In c A → Within c j → Linked (new ∷ A) c new))

inserted-end : (A : List Range) (new : Range) (b : ℕ) (w : Range) (L : List Range) → Reach (new ∷ A) new w → b ≤ w.floor → Ascends (suc w.ceiling) L → Inserted A new b w L (w ∷ L)
inserted-end A new b w L R low r =
    record {
      top = w;
      there = inl refl;
      under = low;
      covers = (omega arith, omega arith);
      reach = R;
      old = λ j i. ⊎_elim (λ e. inl e) (λ k. inr (k, inr (omega (arith, (asc-in (suc w.ceiling) L j r k).0)))) i;
      kept = λ j k. inl (inr k, inr (omega (arith, (asc-in (suc w.ceiling) L j r k).0)));
    }

inserted-pass : (A : List Range) (new : Range) (b : ℕ) (w s : Range) (L R : List Range) → b ≤ s.floor → s.floor ≤ s.ceiling → Inserted A new (suc s.ceiling) w L R → Inserted A new b w (s ∷ L) (s ∷ R)
inserted-pass A new b w s L R l o h =
    let k = h.under in
    record {
      top = h.top;
      there = inr h.there;
      under = omega arith;
      covers = h.covers;
      reach = h.reach;
      old = λ j i. ⊎_elim (λ e. inr (inl e, inl (rw e k))) (λ m. ⊎_elim (λ e. inl e) (λ q. inr (inr q.0, q.1)) (h.old j m)) i;
      kept = λ j i. ⊎_elim (λ e. inl (inl e, inl (rw e k))) (λ m. ⊎_elim (λ q. inl (inr q.0, q.1)) (λ q. inr q) (h.kept j m)) i;
    }

inserted-merge : (A : List Range) (new : Range) (b : ℕ) (w s w' : Range) (L R : List Range) → Within w w' → Within s w' → ((c : Range) → In c A → Within c s → Linked (new ∷ A) c new) → Inserted A new b w' L R → Inserted A new b w (s ∷ L) R
inserted-merge A new b w s w' L R cw cs links h =
    let k = h.covers in
    record {
      top = h.top;
      there = h.there;
      under = h.under;
      covers = (omega arith, omega arith);
      reach = h.reach;
      old = λ j i. ⊎_elim (λ e. inl e) (λ q. inr (inr q.0, q.1)) (h.old j i);
      kept = λ j i. ⊎_elim (λ e. inr (rw e ((omega arith, omega arith), links))) (λ m. h.kept j m) i;
    }

inserted-cons : (A : List Range) (new : Range) (b : ℕ) (w s : Range) (L : List Range) → Reach (new ∷ A) new w → w.floor ≤ w.ceiling → b ≤ w.floor → Ascends b (s ∷ L) → Solid A s
    → (Reach (new ∷ A) new w → suc s.ceiling ≤ w.floor → Inserted A new (suc s.ceiling) w L (insert_range w L))
    → (Reach (new ∷ A) new (cover w s) → Inserted A new b (cover w s) L (insert_range (cover w s) L))
    → Inserted A new b w (s ∷ L) (insert_range w (s ∷ L))
inserted-cons A new b w s L R ow low r S pass merge =
    by-test (ltb s.ceiling w.floor)
    (λ e. rw e (inserted-pass A new b w s L (insert_range w L) r.0 r.1 (pass R (ltb-true s.ceiling w.floor e))))
    (λ e.
    by-test (ltb w.ceiling s.floor)
    (λ d. rw (e, d) (inserted-end A new b w (s ∷ L) R low (ltb-true w.ceiling s.floor d, r.1, r.2)))
    (λ d.
    let touch : Shares w s = (ltb-false s.ceiling w.floor e, ltb-false w.ceiling s.floor d) in
    rw (e, d)
    (inserted-merge A new b w s (cover w s) L (insert_range (cover w s) L) (omega arith, omega arith) (omega arith, omega arith) (touch-linked A new w s R S touch ow r.1) (merge (reach_step A new w s R S touch ow r.1)))))

inserting : (A : List Range) (new : Range) (b : ℕ) (w : Range) (L : List Range) → Reach (new ∷ A) new w → w.floor ≤ w.ceiling → b ≤ w.floor → Ascends b L → ((s : Range) → In s L → Solid A s) → Inserted A new b w L (insert_range w L)
inserting A new b w [] R ow low r S = inserted-end A new b w [] R low tt
inserting A new b w (s ∷ L) R ow low r S =
    inserted-cons A new b w s L R ow low r (S s (inl refl)) (λ R₁ l. inserting A new (suc s.ceiling) w L R₁ ow l r.2 (λ j i. S j (inr i)))
    (λ R₁. inserting A new b (cover w s) L R₁ (omega (arith, r.1)) (omega (arith, r.0)) (asc-lower b (suc s.ceiling) L (omega (arith, r.0, r.1)) r.2) (λ j i. S j (inr i)))

apart-absurd : (a j k : Range) → Within a j → Within a k → a.floor ≤ a.ceiling → Apart j k → ⊥
apart-absurd a j k p q o (inl l) = omega arith
apart-absurd a j k p q o (inr l) = omega arith

module _ {A L : List Range} (S : Covers A L) (new : Range) (on : new.floor ≤ new.ceiling) where
  made : Inserted A new 0 new L (insert_range new L)
  made = inserting A new 0 new L (reach-start A new) on (omega arith) S.ascends S.solid

  ordered : (a : Range) → In a (new ∷ A) → a.floor ≤ a.ceiling
  ordered a (inl e) = rw e on
  ordered a (inr i) = S.ordered a i

  -- what is within the new stretch is joined with the new range
  to-new : (a : Range) → In a (new ∷ A) → Within a made.top → Linked (new ∷ A) a new
  to-new a (inl e) n = rw e Linked.same
  to-new a (inr i) n =
      let k = S.home a i in
      ⊎_elim (λ q. absurd (apart-absurd a k.0 made.top k.2 n (S.ordered a i) q.1)) (λ q. q.1 a i k.2) (made.kept k.0 k.1)

  -- and what is within another was accepted before
  before : (a j : Range) → In a (new ∷ A) → Within a j → Apart j made.top → In a A
  before a j (inl e) n p = absurd (apart-absurd a j made.top n (rw e made.covers) (rw e on) p)
  before a j (inr i) n p = i

  new-solid : Solid (new ∷ A) made.top
  new-solid =
      record {
        full = λ h k. let a = made.reach h k in (a.0, a.1, a.2, a.3);
        joins = λ a b i j n m. linked-trans (to-new a i n) (linked-sym j (to-new b j m));
      }

  old-solid : (j : Range) → In j L → Apart j made.top → Solid (new ∷ A) j
  old-solid j i p =
      record {
        full = λ h k. let a = (S.solid j i).full h k in (a.0, inr a.1, a.2, a.3);
        joins = λ a b x y n m. linked-more ((S.solid j i).joins a b (before a j x n p) (before b j y m p) n m);
      }

  home : (a : Range) → In a (new ∷ A) → (s : Range) × In s (insert_range new L) × Within a s
  home a (inl e) = (made.top, made.there, rw e made.covers)
  home a (inr i) =
      let k = S.home a i in
      ⊎_elim (λ q. (k.0, q.0, k.2)) (λ q. let c = q.0 in let d = k.2 in (made.top, made.there, (omega arith, omega arith))) (made.kept k.0 k.1)

  pub covers-insert : Covers (new ∷ A) (insert_range new L)
  covers-insert =
      record {
        ascends = insert-ascends 0 new L (omega arith) on S.ascends;
        ordered = ordered;
        home = home;
        solid = λ s i. ⊎_elim (λ e. rw e new-solid) (λ q. old-solid s q.0 q.1) (made.old s i);
      }
