-- A column that covers what was accepted lists exactly its stretches, and these are fixed by which spans were accepted: their order does not count.
use mathlib.Core.Path.{◌≡◌, refl, sym, ap, ap₂, ◌∙◌}
use mathlib.Core.Logic.{inl, inr, ⊎_elim, ◌↔◌}
use mathlib.Core.List.{List, [], ◌∷◌}
use Prim.Native.Nat.{ℕ, suc}
use native.Mathlib.Omega.{arith}
use Rattle.field.specs.Spans.{Range, Ascends}
use Rattle.field.specs.Stretches.{In, Shares, Linked, Within, Stretch, Lists}
use Rattle.field.proofs.Walking.{asc-in}
use Rattle.field.proofs.Stretching.{Covers}

-- two of an ascending column that share a height are one
asc-same : (b : ℕ) (L : List Range) (j k : Range) → Ascends b L → In j L → In k L → Shares j k → j ≡ k
asc-same b [] j k r x y s = absurd x
asc-same b (l ∷ L) j k r (inl e) (inl d) s = e ∙ sym d
asc-same b (l ∷ L) j k r (inl e) (inr y) s = absurd (omega (arith, (asc-in (suc l.ceiling) L k r.2 y).0, ap (λ (z : Range). z.ceiling) e))
asc-same b (l ∷ L) j k r (inr x) (inl d) s = absurd (omega (arith, (asc-in (suc l.ceiling) L j r.2 x).0, ap (λ (z : Range). z.ceiling) d))
asc-same b (l ∷ L) j k r (inr x) (inr y) s = asc-same (suc l.ceiling) L j k r.2 x y s

range_same : (a b : Range) → a.floor ≡ b.floor → a.ceiling ≡ b.ceiling → a ≡ b
range_same a b p q = λ i. record { floor = p i; ceiling = q i }

-- ---- what is covered is listed

-- what is joined with one within a stretch is within it
linked-within : {A L : List Range} (S : Covers A L) (m : Range) → In m L → {a b : Range} → In a A → Within a m → Linked A a b → Within b m
linked-within S m i x n Linked.same = n
linked-within {A} {L} S m i {a} x n (Linked.next {b = c} y s l) =
    let k = S.home c y in
    let w = k.2 in
    let e : m ≡ k.0 = asc-same 0 L m k.0 S.ascends i k.1 (omega (arith, S.ordered a x, S.ordered c y), omega (arith, S.ordered a x, S.ordered c y)) in
    linked-within S m i y (rw e w) l

module _ {A L : List Range} (S : Covers A L) where
  listed-stretch : (s : Range) → In s L → Stretch A s
  listed-stretch s i =
      let o = (asc-in 0 L s S.ascends i).1 in
      let a = (S.solid s i).full s.floor (omega arith, omega arith) in
      let b = (S.solid s i).full s.ceiling (omega arith, omega arith) in
      record {
        one = a.0;
        among = a.1;
        covers = λ c y l. linked-within S s i a.1 a.2 l;
        lowest = (a.0, a.1, Linked.same, omega (arith, a.2, a.3));
        highest = (b.0, b.1, (S.solid s i).joins a.0 b.0 a.1 b.1 a.2 b.2, omega (arith, b.2, b.3));
      }

  -- a stretch is the one of the column that its spans are within
  stretch-listed : (s : Range) → Stretch A s → In s L
  stretch-listed s T =
      let k = S.home T.one T.among in
      let m = k.0 in
      let o = (asc-in 0 L m S.ascends k.1).1 in
      let a = (S.solid m k.1).full m.floor (omega arith, omega arith) in
      let b = (S.solid m k.1).full m.ceiling (omega arith, omega arith) in
      let low = linked-within S m k.1 T.among k.2 T.lowest.2 in
      let high = linked-within S m k.1 T.among k.2 T.highest.2 in
      let under = T.covers a.0 a.1 ((S.solid m k.1).joins T.one a.0 T.among a.1 k.2 a.2) in
      let over = T.covers b.0 b.1 ((S.solid m k.1).joins T.one b.0 T.among b.1 k.2 b.2) in
      let e : s ≡ m =
      range_same s m (omega (arith, low, under, T.lowest.3, a.3, a.2)) (omega (arith, high, over, T.highest.3, b.3, b.2))
      in
      rw e k.1

  pub covers-lists : Lists A L
  covers-lists = record { ascends = S.ascends; exactly = λ s. (listed-stretch s, stretch-listed s) }

  -- Two belong to one stretch exactly when a chain joins them.
  pub one-stretch : (a b : Range) → In a A → In b A → Linked A a b ↔ ((s : Range) × In s L × Within a s × Within b s)
  one-stretch a b i j = (
    λ l. let k = S.home a i in (k.0, k.1, k.2, linked-within S k.0 k.1 i k.2 l),
    λ k. (S.solid k.0 k.1).joins a b i j k.2 k.3,
  )

-- ---- what is listed is fixed

abbrev Among : List Range → List Range → Type 0
Among L M = (s : Range) → In s L → In s M

first-same : (b : ℕ) (s m : Range) (L M : List Range) → Ascends b (s ∷ L) → Ascends b (m ∷ M) → Among (s ∷ L) (m ∷ M) → Among (m ∷ M) (s ∷ L) → s ≡ m
first-same b s m L M r q to back =
    ⊎_elim (λ e. e)
    (λ i.
    ⊎_elim (λ e. sym e)
    (λ j. absurd (omega (arith, r.1, q.1, (asc-in (suc m.ceiling) M s q.2 i).0, (asc-in (suc s.ceiling) L m r.2 j).0)))
    (back m (inl refl)))
    (to s (inl refl))

rest-among : (b : ℕ) (s m : Range) (L M : List Range) → Ascends b (s ∷ L) → s ≡ m → Among (s ∷ L) (m ∷ M) → Among L M
rest-among b s m L M r e to x i =
    ⊎_elim (λ d. absurd (omega (arith, r.1, (asc-in (suc s.ceiling) L x r.2 i).0, ap (λ (z : Range). z.floor) (d ∙ sym e)))) (λ j. j)
    (to x (inr i))

same_lists : (b : ℕ) (L M : List Range) → Ascends b L → Ascends b M → Among L M → Among M L → L ≡ M
same_lists b [] [] r q to back = refl
same_lists b [] (m ∷ M) r q to back = absurd (back m (inl refl))
same_lists b (s ∷ L) [] r q to back = absurd (to s (inl refl))
same_lists b (s ∷ L) (m ∷ M) r q to back =
    let e = first-same b s m L M r q to back in
    ap₂ (λ (a : Range) (l : List Range). a ∷ l) e
    (same_lists (suc s.ceiling) L M r.2 (rw e q.2) (rest-among b s m L M r e to) (rest-among b m s M L q (sym e) back))

linked-among : {A B : List Range} → Among A B → {a c : Range} → Linked A a c → Linked B a c
linked-among to Linked.same = Linked.same
linked-among to (Linked.next {b = b} i s l) = Linked.next (to b i) s (linked-among to l)

stretch-among : {A B : List Range} → Among A B → Among B A → (s : Range) → Stretch A s → Stretch B s
stretch-among to back s T =
    record {
      one = T.one;
      among = to T.one T.among;
      covers = λ a i l. T.covers a (back a i) (linked-among back l);
      lowest = (T.lowest.0, to T.lowest.0 T.lowest.1, linked-among to T.lowest.2, T.lowest.3);
      highest = (T.highest.0, to T.highest.0 T.highest.1, linked-among to T.highest.2, T.highest.3);
    }

-- Two columns that list the stretches of the same spans, in whatever order these came, are the same.
pub lists-fixed : {A B L M : List Range} → ((a : Range) → In a A ↔ In a B) → Lists A L → Lists B M → L ≡ M
lists-fixed {A} {B} {L} {M} same S T =
    let to : Among A B = λ a. (same a).0 in
    let back : Among B A = λ a. (same a).1 in
    same_lists 0 L M S.ascends T.ascends (λ s i. (T.exactly s).1 (stretch-among to back s ((S.exactly s).0 i)))
    (λ s i. (S.exactly s).1 (stretch-among back to s ((T.exactly s).0 i)))
