-- What an insertion answers: it is refused where no slot is free once the merged ones are given back, and else accepted.
use mathlib.Core.Path.{◌≡◌, refl, sym, ap, ◌∙◌}
use mathlib.Core.Logic.{◌≢◌, ◌⊎◌, inl, inr}
use mathlib.Core.Bool.{true, false}
use mathlib.Core.List.{List, [], ◌∷◌, ◌++◌, map, foldl}
use Prim.Native.Nat.{ℕ, suc, ◌+◌, ◌<◌, ◌≤◌}
use native.Mathlib.Omega.{arith}
use native.Mathlib.Decide.{ℕ_discrete}
use lib.ListN.{length}
use Rattle.field.specs.declared.Span.{Span}
use Rattle.field.specs.Spans.{range, Ascends, insert_column}
use Rattle.field.specs.Slots.{none, span_at, range_at, Slots}
use Rattle.field.specs.Field.{Field, column_at, spans, ranges, length_in, Holds, release, Inserted, settle, insert}
use Rattle.field.specs.Inner.{first_or, last_or, give_back, link_heads}
use Rattle.field.proofs.Basics.{by-dec, no_length}
use Rattle.field.proofs.Chains.{run-nil, run-cons}
use Rattle.field.proofs.Contents.{ranges-spans}
use Rattle.field.proofs.Walking.{walk-column, column-ranges, insert-ascends}
use Rattle.field.proofs.Holding.{slot-total}
use Rattle.field.proofs.Linking.{link-heads-length}
use Rattle.field.proofs.Inserting.{placed, field₃, spans-here, spans-other, column-here, column-other, holds-placed, placed-size, walk_of, walk_split, walk-given}

-- the slots and the field once the merged slots are given back
abbrev pub slots_given : ℕ → Slots → Field → ℕ → Span → Slots
slots_given th t f i new = foldl give_back t (walk_of th f i new).merged

abbrev pub field_given : ℕ → Field → ℕ → Span → Field
field_given th f i new = foldl release f (walk_of th f i new).merged

abbrev pub refusal : Field → Inserted
refusal f = record { accepted = false; slot = none; merged = 0; field = f }

-- a field of n columns over N slots that some store holds
pub record Kept (n N : ℕ) (f : Field) : Type 0 where
  pub heads : List ℕ
  pub slots : Slots
  pub holds : Holds heads slots f
  pub columns : length heads ≡ n
  pub size : length slots.nexts ≡ N

-- the span was accepted
pub record Accepts (n N th : ℕ) (f : Field) (i : ℕ) (new : Span) (o : Inserted) : Type 0 where
  pub accepted : o.accepted ≡ true
  pub here : spans o.field i ≡ insert_column th new (spans f i)
  pub other : (j : ℕ) → j ≢ i → spans o.field j ≡ spans f j
  pub count : length_in o.field.columns + o.merged ≡ length_in f.columns + 1
  pub kept : Kept n N o.field

-- it was refused: nothing merges, and no slot is free
pub record Refuses (th : ℕ) (f : Field) (i : ℕ) (new : Span) (o : Inserted) : Type 0 where
  pub is : o ≡ refusal f
  pub none-merged : (walk_of th f i new).merged ≡ []
  pub none_free : f.spare ≡ []

module _ {heads : List ℕ} {t : Slots} {f : Field} (H : Holds heads t f) (i : ℕ) (lt : i < length heads) (new : Span) (th : ℕ) where
  -- ---- refused

  given-few : length (slots_given th t f i new).nexts ≤ none
  given-few = rw (walk-given H i lt new th).size H.few

  pub none-given : (field_given th f i new).spare ≡ [] → ((walk_of th f i new).merged ≡ []) × (f.spare ≡ [])
  none-given e =
      let k = (walk-given H i lt new th).more in
      let z : length (field_given th f i new).spare ≡ 0 = ap length e in
      (no_length (walk_of th f i new).merged (omega arith), no_length f.spare (omega arith))

  pub refuses : (field_given th f i new).spare ≡ [] → Refuses th f i new (insert th f i new)
  refuses e =
      let k = none-given e in
      record { is = ap (settle f i (walk_of th f i new) (field_given th f i new)) e; none-merged = k.0; none_free = k.1 }

  -- as the code sees it: no slot is free, and then none was merged
  pub refused : (slots_given th t f i new).free ≡ none → Refuses th f i new (insert th f i new) × (slots_given th t f i new ≡ t)
  refused e =
      let G = walk-given H i lt new th in
      let r = refuses (run-nil (slots_given th t f i new).nexts (slots_given th t f i new).free (field_given th f i new).spare given-few G.spare e) in
      (r, ap (λ (l : List ℕ). foldl give_back t l) r.none-merged)

  -- ---- accepted

  module _ (order : new.floor ≤ new.ceiling) (n : (slots_given th t f i new).free ≢ none) where
    pub front : (q : List ℕ) × ((field_given th f i new).spare ≡ (slots_given th t f i new).free ∷ q) × ((slots_given th t f i new).free < length (slots_given th t f i new).nexts)
    front =
        let k = run-cons (slots_given th t f i new).nexts (slots_given th t f i new).free (field_given th f i new).spare (walk-given H i lt new th).spare n in
        (k.0, k.1, k.2)

    abbrev pub result : Field
    result =
        field₃ H i lt (walk_of th f i new).passed (walk_of th f i new).merged (walk_of th f i new).above (walk_split H i lt new th) (slots_given th t f i new) (field_given th f i new) (walk-given H i lt new th) front.0 front.1 (walk_of th f i new).span

    pub accepted-is : insert th f i new ≡ record { accepted = true; slot = (slots_given th t f i new).free; merged = length (walk_of th f i new).merged; field = result }
    accepted-is = ap (settle f i (walk_of th f i new) (field_given th f i new)) front.1

    new-column : map (span_at result.contents) ((walk_of th f i new).passed ++ (slots_given th t f i new).free ∷ (walk_of th f i new).above) ≡ insert_column th new (spans f i)
    new-column =
        spans-here H i lt (walk_of th f i new).passed (walk_of th f i new).merged (walk_of th f i new).above (walk_split H i lt new th) (slots_given th t f i new) (field_given th f i new) (walk-given H i lt new th) front.0 front.1 (walk_of th f i new).span
        ∙ sym (walk-column (span_at f.contents) th new (column_at f i))

    pub spans-new : spans result i ≡ insert_column th new (spans f i)
    spans-new =
        ap (map (span_at result.contents)) (column-here H i lt (walk_of th f i new).passed (walk_of th f i new).merged (walk_of th f i new).above (walk_split H i lt new th) (slots_given th t f i new) (field_given th f i new) (walk-given H i lt new th) front.0 front.1 (walk_of th f i new).span)
        ∙ new-column

    pub spans-kept : (j : ℕ) → j ≢ i → spans result j ≡ spans f j
    spans-kept j d =
        ap (map (span_at result.contents)) (column-other H i lt (walk_of th f i new).passed (walk_of th f i new).merged (walk_of th f i new).above (walk_split H i lt new th) (slots_given th t f i new) (field_given th f i new) (walk-given H i lt new th) front.0 front.1 (walk_of th f i new).span j d)
        ∙ spans-other H i lt (walk_of th f i new).passed (walk_of th f i new).merged (walk_of th f i new).above (walk_split H i lt new th) (slots_given th t f i new) (field_given th f i new) (walk-given H i lt new th) front.0 front.1 (walk_of th f i new).span j d

    new-ascends : Ascends 0 (map (range_at result.contents) ((walk_of th f i new).passed ++ (slots_given th t f i new).free ∷ (walk_of th f i new).above))
    new-ascends =
        rw (← ranges-spans result.contents ((walk_of th f i new).passed ++ (slots_given th t f i new).free ∷ (walk_of th f i new).above), new-column, column-ranges th new (spans f i), ranges-spans f.contents (column_at f i))
        (insert-ascends 0 (range new) (ranges f i) (omega arith) order (H.ascends i lt))

    pub holds-result : Holds (link_heads heads i (last_or none (walk_of th f i new).passed) (slots_given th t f i new).free) (placed (slots_given th t f i new) (walk_of th f i new).span (first_or none (walk_of th f i new).above) (last_or none (walk_of th f i new).passed)) result
    holds-result =
        holds-placed H i lt (walk_of th f i new).passed (walk_of th f i new).merged (walk_of th f i new).above (walk_split H i lt new th) (slots_given th t f i new) (field_given th f i new) (walk-given H i lt new th) front.0 front.1 (walk_of th f i new).span new-ascends

    size-result : length (placed (slots_given th t f i new) (walk_of th f i new).span (first_or none (walk_of th f i new).above) (last_or none (walk_of th f i new).passed)).nexts ≡ length t.nexts
    size-result =
        placed-size H i lt (walk_of th f i new).passed (walk_of th f i new).merged (walk_of th f i new).above (walk_split H i lt new th) (slots_given th t f i new) (field_given th f i new) (walk-given H i lt new th) front.0 front.1 (walk_of th f i new).span
        ∙ (walk-given H i lt new th).size

    count-result : length_in result.columns + length (walk_of th f i new).merged ≡ length_in f.columns + 1
    count-result =
        let a = slot-total holds-result in
        let b = slot-total H in
        let c = (walk-given H i lt new th).more in
        let d : length (field_given th f i new).spare ≡ suc (length front.0) = ap length front.1 in
        omega (arith, size-result)

    pub accepts : Accepts (length heads) (length t.nexts) th f i new (insert th f i new)
    accepts =
        rw accepted-is
        (record {
          accepted = refl;
          here = spans-new;
          other = spans-kept;
          count = count-result;
          kept =
              record {
                heads = link_heads heads i (last_or none (walk_of th f i new).passed) (slots_given th t f i new).free;
                slots = placed (slots_given th t f i new) (walk_of th f i new).span (first_or none (walk_of th f i new).above) (last_or none (walk_of th f i new).passed);
                holds = holds-result;
                columns = link-heads-length heads i (last_or none (walk_of th f i new).passed) (slots_given th t f i new).free;
                size = size-result;
              };
        })

  -- one or the other
  pub insert-cases : new.floor ≤ new.ceiling → Accepts (length heads) (length t.nexts) th f i new (insert th f i new) ⊎ Refuses th f i new (insert th f i new)
  insert-cases order =
      by-dec (ℕ_discrete (slots_given th t f i new).free none) (λ e. inr (refused e).0) (λ n. inl (accepts order n))
