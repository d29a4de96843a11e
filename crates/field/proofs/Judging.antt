-- The test for soundness: what the marks and their number say of the store.
use mathlib.Core.Path.{◌≡◌, refl, sym, ap, ◌∙◌}
use mathlib.Core.Logic.{◌≢◌, ◌↔◌}
use mathlib.Core.List.{List, []}
use Prim.Native.Nat.{ℕ, ◌<◌, ◌≤◌}
use native.Mathlib.Omega.{arith}
use lib.ListN.{length, get_or}
use lib.Seq.{ext_get_or}
use Rattle.field.specs.Slots.{none, slots, times, times_in}
use Rattle.field.specs.Field.{Held}
use Rattle.field.specs.Marks.{Flags, Marked, Broken, Any, Columns, MarkedAll, BrokenAll}
use Rattle.field.proofs.Chains.{run-unique}
use Rattle.field.proofs.Holding.{at_most}
use Rattle.field.proofs.Marking.{unmarked-none, none-unmarked}

-- ---- columns

same-columns : {heads fl ce nx : List ℕ} {n : ℕ} {cs ds : List (List ℕ)} → length nx ≤ none → Columns heads fl ce nx n cs → Columns heads fl ce nx n ds → cs ≡ ds
same-columns {heads} {fl} {ce} {nx} {n} {cs} {ds} few C D =
    ext_get_or [] cs ds (C.size ∙ sym D.size)
    (λ i l. let m : i < n = omega (arith, C.size) in run-unique nx (get_or heads i 0) (get_or cs i []) (get_or ds i []) few (C.column i m) (D.column i m))

module _ (heads : List ℕ) (free : ℕ) (fl ce nx ar : List ℕ) (zf : length fl ≡ length nx) (zc : length ce ≡ length nx) (za : length ar ≡ length nx) (small : length nx ≤ 1048576) where
  -- those of a field that the store holds
  held-columns : (h : Held heads (slots free fl ce ar nx)) → Columns heads fl ce nx (length heads) h.0.columns
  held-columns h =
      record {
        size = h.1.wide;
        column = h.1.column;
        ascends = λ i l. rw h.1.contents at (h.1.ascends i l);
        once = λ x. omega (arith, at_most h.1 x);
      }

  -- no columns, no field
  pub judged-columns : BrokenAll heads fl ce nx → Held heads (slots free fl ce ar nx) → ⊥
  judged-columns b h = b h.0.columns (held-columns h)

  module _ (mk : List ℕ) {n : ℕ} (M : MarkedAll heads fl ce nx mk n) where
    few : length nx ≤ none
    few = omega arith

    pub columns-flags : Flags mk
    columns-flags x = omega (arith, M.marks x, M.columns.once x)

    its-columns : (h : Held heads (slots free fl ce ar nx)) → M.cs ≡ h.0.columns
    its-columns h = same-columns few M.columns (held-columns h)

    -- no free chain, no field
    pub judged-spare : Broken nx mk free Any → Held heads (slots free fl ce ar nx) → ⊥
    judged-spare b h =
        b h.0.spare
        (record {
          run = h.1.spare;
          once = λ x. omega (arith, M.marks x, ap (λ (c : List (List ℕ)). times_in x c) (its-columns h), at_most h.1 x);
        })
        tt

    -- and else there is a field exactly if every slot is marked
    module _ (mk' : List ℕ) {n' : ℕ} (N : Marked nx mk free Any mk' n') (size : length mk' ≡ length nx) where
      all_held : n' ≡ length nx → Held heads (slots free fl ce ar nx)
      all_held e =
          let all = unmarked-none mk' (omega (arith, N.count)) in (
            record { columns = M.cs; spare = N.ss; contents = (slots free fl ce ar nx).contents },
            record {
              sized = record { floors = zf; ceilings = zc; areas = za };
              few = few;
              wide = M.columns.size;
              contents = refl;
              column = M.columns.column;
              spare = N.run;
              once =
                  λ x l.
                  let z : get_or mk' x 0 ≢ 0 = all x (omega arith) in
                  omega (arith, N.adds x, N.flags x, M.marks x);
              ascends = M.columns.ascends;
            },
          )

      held_all : Held heads (slots free fl ce ar nx) → n' ≡ length nx
      held_all h =
          let same-spare = run-unique nx free N.ss h.0.spare few N.run h.1.spare in
          let set : (k : ℕ) → k < length mk' → get_or mk' k 0 ≢ 0 =
          λ k l e.
          omega (
            arith,
            N.adds k,
            M.marks k,
            ap (λ (c : List (List ℕ)). times_in k c) (its-columns h),
            ap (λ (s : List ℕ). times k s) same-spare,
            h.1.once k (omega arith),
          )
          in
          omega (arith, N.count, none-unmarked mk' set)

      pub judged : (n' ≡ length nx) ↔ Held heads (slots free fl ce ar nx)
      judged = (all_held, held_all)
