-- The loop that marks the columns one after another.
use mathlib.Core.Path.{◌≡◌, refl, ap, ◌∙◌}
use mathlib.Core.List.{List, [], ◌∷◌, ◌++◌}
use Prim.Native.Nat.{ℕ, zero, suc, ◌+◌, ◌<◌, ◌≤◌}
use native.Mathlib.Omega.{arith}
use native.Mathlib.Decide.{dec_lt, ℕ_discrete}
use lib.ListN.{length, get_or, length-append, replicate, get_or-replicate, length-replicate, get_or-append, get_or-eq_default}
use lib.Seq.{get_or-append_seam}
use Rattle.field.specs.Slots.{none, times, times_in}
use Rattle.field.specs.Marks.{Flags, unmarked, Free, Marked, Broken, Climbs, Columns, MarkedAll, BrokenAll}
use Rattle.field.proofs.Basics.{by-dec}
use Rattle.field.proofs.Counting.{times_in-append}
use Rattle.field.proofs.Chains.{run-unique}

-- ---- marks that are all 0

replicate-zero : (n x : ℕ) → get_or {A = ℕ} (replicate n 0) x 0 ≡ 0
replicate-zero n x =
    by-dec (dec_lt x n) (λ l. get_or-replicate n x 0 0 l) (λ k. get_or-eq_default {A = ℕ} (replicate n 0) 0 {n = x} (omega (arith, length-replicate {A = ℕ} n 0)))

unmarked-zero : (n : ℕ) → unmarked (replicate n 0) ≡ n
unmarked-zero zero = refl
unmarked-zero (suc n) = omega (arith, unmarked-zero n)

-- ---- the loop

-- the first columns and the next one count no more than all
first-times : (x : ℕ) (cs ds : List (List ℕ)) → length cs < length ds → ((j : ℕ) → j < length cs → get_or cs j [] ≡ get_or ds j []) → times_in x cs + times x (get_or ds (length cs) []) ≤ times_in x ds
first-times x [] [] l agree = absurd (omega arith)
first-times x [] (d ∷ ds) l agree = omega arith
first-times x (c ∷ cs) [] l agree = absurd (omega arith)
first-times x (c ∷ cs) (d ∷ ds) l agree =
    omega (arith, ap (λ (z : List ℕ). times x z) (agree 0 (omega arith)), first-times x cs ds (omega arith) (λ j p. agree (suc j) (omega arith)))

-- the first `i` columns are marked, with `n` slots in them
pub record Surveyed (heads fl ce nx mk : List ℕ) (i n : ℕ) : Type 0 where
  pub cs : List (List ℕ)
  pub columns : Columns heads fl ce nx i cs
  pub marks : (x : ℕ) → get_or mk x 0 ≡ times_in x cs
  pub count : n + unmarked mk ≡ length nx
  pub within : i ≤ length heads
  pub sizes : (length fl ≡ length nx) × (length ce ≡ length nx)
  pub size : length mk ≡ length nx
  pub few : length nx ≤ 1048576

pub surveyed-start : (heads fl ce nx mk : List ℕ) → (length fl ≡ length nx) × (length ce ≡ length nx) → length nx ≤ 1048576 → mk ≡ replicate (length nx) 0 → Surveyed heads fl ce nx mk 0 0
surveyed-start heads fl ce nx mk sizes few e =
    record {
      cs = [];
      columns = record { size = refl; column = λ i l. absurd (omega arith); ascends = λ i l. absurd (omega arith); once = λ x. omega arith };
      marks = λ x. rw e (replicate-zero (length nx) x);
      count = rw e (omega (arith, unmarked-zero (length nx)));
      within = omega arith;
      sizes = sizes;
      size = ap length e ∙ length-replicate (length nx) 0;
      few = few;
    }

module _ {heads fl ce nx mk : List ℕ} {i n : ℕ} (p : Surveyed heads fl ce nx mk i n) (l : i < length heads) where
  pub surveyed-flags : Flags mk
  surveyed-flags x = omega (arith, p.marks x, p.columns.once x)

  few-slots : length nx ≤ none
  few-slots = omega (arith, p.few)

  -- the next column of a field that the store might hold is a chain of unmarked slots
  next-free : (ds : List (List ℕ)) → Columns heads fl ce nx (length heads) ds → Free nx mk (get_or heads i 0) (get_or ds i [])
  next-free ds C =
      let z : length p.cs ≡ i = p.columns.size in
      let agree : (j : ℕ) → j < length p.cs → get_or p.cs j [] ≡ get_or ds j [] =
      λ j m. run-unique nx (get_or heads j 0) (get_or p.cs j []) (get_or ds j []) few-slots (p.columns.column j (omega arith)) (C.column j (omega arith))
      in
      record {
        run = C.column i l;
        once =
            λ x.
            let k : times_in x p.cs + times x (get_or ds i []) ≤ times_in x ds = rw z at (first-times x p.cs ds (omega (arith, C.size)) agree) in
            omega (arith, p.marks x, C.once x);
      }

  pub surveyed-broken : Broken nx mk (get_or heads i 0) (Climbs fl ce 0) → BrokenAll heads fl ce nx
  surveyed-broken b ds C = b (get_or ds i []) (next-free ds C) (C.ascends i l)

  pub surveyed-step : {mk' : List ℕ} {n' : ℕ} → Marked nx mk (get_or heads i 0) (Climbs fl ce 0) mk' n' → length mk' ≡ length mk → Surveyed heads fl ce nx mk' (i + 1) n'
  surveyed-step {mk'} {n'} M z =
      let k : length p.cs ≡ i = p.columns.size in
      let total : (x : ℕ) → get_or mk' x 0 ≡ times_in x (p.cs ++ M.ss ∷ []) = λ x. omega (arith, M.adds x, p.marks x, times_in-append x p.cs (M.ss ∷ [])) in
      let before : (j : ℕ) → j < i → get_or (p.cs ++ M.ss ∷ []) j [] ≡ get_or p.cs j [] = λ j m. get_or-append p.cs (M.ss ∷ []) [] j (omega arith) in
      let here : get_or (p.cs ++ M.ss ∷ []) i [] ≡ M.ss = rw k at (get_or-append_seam p.cs M.ss [] []) in
      record {
        cs = p.cs ++ M.ss ∷ [];
        columns =
            record {
              size = length-append p.cs (M.ss ∷ []) ∙ omega arith;
              column =
                  λ j m.
                  by-dec (ℕ_discrete j i) (λ e. rw (e, here) M.run)
                  (λ d. rw (before j (omega arith)) (p.columns.column j (omega arith)));
              ascends =
                  λ j m. by-dec (ℕ_discrete j i) (λ e. rw (e, here) M.fair) (λ d. rw (before j (omega arith)) (p.columns.ascends j (omega arith)));
              once = λ x. omega (arith, total x, M.flags x);
            };
        marks = total;
        count = M.count;
        within = omega arith;
        sizes = p.sizes;
        size = z ∙ p.size;
        few = p.few;
      }

pub surveyed-end : {heads fl ce nx mk : List ℕ} {i n : ℕ} → Surveyed heads fl ce nx mk i n → length heads ≤ i → MarkedAll heads fl ce nx mk n
surveyed-end {heads} {fl} {ce} {nx} {mk} {i} {n} p l =
    let e : i ≡ length heads = omega (arith, p.within) in
    record { cs = p.cs; columns = rw e at p.columns; marks = p.marks; count = p.count }
