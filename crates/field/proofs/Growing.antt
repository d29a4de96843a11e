-- A field whose columns cover the spans accepted there, and what becomes of it: one span more, a triangle's or a mesh's spans one by one, a filter.
use mathlib.Core.Path.{◌≡◌, refl, sym, ap, ◌∙◌}
use mathlib.Core.Logic.{◌≢◌, ⊎_elim}
use mathlib.Core.Bool.{Bool, true, false, cond}
use mathlib.Core.List.{List, [], ◌∷◌, ◌++◌, map}
use Prim.Native.Nat.{ℕ, zero, suc, ◌+◌, ◌*◌, ◌<◌, ◌≤◌}
use native.Mathlib.Omega.{arith}
use native.Mathlib.Decide.{ℕ_discrete}
use borrow.Author.Tests.{eq-eqb, ne_eqb}
use lib.ListN.{length}
use lib.Dec.{eqb}
use Rattle.clip.specs.Work.{Event, insert as offer, stop}
use Rattle.clip.proofs.Works.{Proper}
use Rattle.grid.proofs.Places.{cell_below}
use Rattle.field.specs.declared.Span.{Span}
use Rattle.field.specs.Spans.{range, insert_column}
use Rattle.field.specs.Field.{Field, column_at, spans, ranges, Inserted, insert}
use Rattle.field.specs.Carrying.{Carried, went, stopped, says_of, leaves, Work, carry, onward, carry_mesh}
use Rattle.field.specs.Filters.{Rule, filtered}
use Rattle.field.specs.History.{Placed, put_in, put_all, put_said, in_column}
use Rattle.field.proofs.Basics.{by-dec, by-test, true-false}
use Rattle.field.proofs.Contents.{ranges-spans}
use Rattle.field.proofs.Walking.{insert_range, column-ranges}
use Rattle.field.proofs.Accepting.{Kept, insert-cases}
use Rattle.field.proofs.Stretching.{Covers, covers-insert}
use Rattle.field.proofs.Sweeping.{with_areas, filtered-holds}
use Rattle.field.proofs.Filtering.{filtered-keeps-ranges}

-- some store of n columns and N slots holds the field, where `A i` are the spans accepted in column i
pub record Grown (n N : ℕ) (A : ℕ → List Span) (f : Field) : Type 0 where
  pub kept : Kept n N f
  pub covers : (i : ℕ) → i < n → Covers (map range (A i)) (ranges f i)

-- the same spans in other words
same : {n N : ℕ} {A B : ℕ → List Span} {f : Field} → ((i : ℕ) → A i ≡ B i) → Grown n N A f → Grown n N B f
same e G = record { kept = G.kept; covers = λ i l. rw (← e i) (G.covers i l) }

-- ---- one span

ranges-new : (th : ℕ) (new : Span) (f f' : Field) (i : ℕ) → spans f' i ≡ insert_column th new (spans f i) → ranges f' i ≡ insert_range (range new) (ranges f i)
ranges-new th new f f' i e =
    sym (ranges-spans f'.contents (column_at f' i)) ∙ ap (map range) e ∙ column-ranges th new (spans f i)
    ∙ ap (insert_range (range new)) (ranges-spans f.contents (column_at f i))

ranges-kept : (f f' : Field) (i : ℕ) → spans f' i ≡ spans f i → ranges f' i ≡ ranges f i
ranges-kept f f' i e = sym (ranges-spans f'.contents (column_at f' i)) ∙ ap (map range) e ∙ ranges-spans f.contents (column_at f i)

-- the spans in a column once one more was placed in column c
abbrev pub more : ℕ → Span → (ℕ → List Span) → ℕ → List Span
more c new A i = in_column i (record { column = c; span = new } ∷ []) ++ A i

module _ {n N : ℕ} {A : ℕ → List Span} {f : Field} (G : Grown n N A f) (c : ℕ) (lt : c < n) (new : Span) (th : ℕ) (order : new.floor ≤ new.ceiling) where
  more-covers : (f' : Field) → spans f' c ≡ insert_column th new (spans f c) → ((j : ℕ) → j ≢ c → spans f' j ≡ spans f j) → (i : ℕ) → i < n → Covers (map range (more c new A i)) (ranges f' i)
  more-covers f' here other i l =
      by-dec (ℕ_discrete i c)
      (λ e. rw (e, eq-eqb c c refl, ranges-new th new f f' c here) (covers-insert (G.covers c lt) (range new) order))
      (λ d. rw (ne_eqb c i (λ e. d (sym e)), ranges-kept f f' i (other i d)) (G.covers i l))

  -- an accepted span is one more
  pub grows : (insert th f c new).accepted ≡ true → Grown n N (more c new A) (insert th f c new).field
  grows took =
      ⊎_elim
      (λ k. record { kept = rw (G.kept.columns, G.kept.size) at k.kept; covers = more-covers (insert th f c new).field k.here k.other })
      (λ k. absurd (true-false (sym took ∙ ap (λ (r : Inserted). r.accepted) k.is)))
      (insert-cases G.kept.holds c (omega (arith, lt, G.kept.columns)) new th order)

-- ---- a filter keeps the floors and ceilings

pub filter-grows : {n N : ℕ} {A : ℕ → List Span} {f : Field} (rule : Rule) → Grown n N A f → Grown n N A (filtered rule f)
filter-grows {n} {N} {A} {f} rule G =
    record {
      kept =
          record {
            heads = G.kept.heads;
            slots = with_areas G.kept.slots (filtered rule f).contents.areas;
            holds = filtered-holds rule G.kept.holds;
            columns = G.kept.columns;
            size = G.kept.size;
          };
      covers = λ i l. rw (filtered-keeps-ranges rule f i) (G.covers i l);
    }

-- ---- spans one by one, on a grid of w × h

module _ (w h th N : ℕ) (A : ℕ → List Span) (works : ℕ → Work) where
  -- these were put in
  abbrev Put : List Placed → Field → Type 0
  Put ps f = Grown (w * h) N (λ i. in_column i ps ++ A i) f

  in-front : (b : Bool) (s : Span) (xs ys : List Span) → cond b (s ∷ []) [] ++ (xs ++ ys) ≡ cond b (s ∷ xs) xs ++ ys
  in-front true s xs ys = refl
  in-front false s xs ys = refl

  -- what a triangle's work came to, of which `made` insertions were made before
  abbrev Came : ℕ → ℕ → List Event → List Placed → Carried → Type 0
  Came area made es ps (went m f) = Put (put_in w works area (length es) es ps) f
  Came area made es ps (stopped reply m f) = (k : ℕ) × (m ≡ made + k) × Put (put_in w works area k es ps) f

  came-next : (area made x z floor ceiling : ℕ) (es : List Event) (ps : List Placed) (o : Carried)
      → Came area (made + 1) es (record { column = x + z * w; span = record { floor = floor; ceiling = ceiling; area = area } } ∷ ps) o
      → Came area made (offer x z floor ceiling ∷ es) ps o
  came-next area made x z floor ceiling es ps (went m f) C = C
  came-next area made x z floor ceiling es ps (stopped reply m f) C = (suc C.0, omega (arith, C.1), C.2)

  came : (area made : ℕ) (es : List Event) (ps : List Placed) (f : Field) → Proper w h es → Put ps f → Came area made es ps (carry w th area made f es)
  unfolding carry
  came area made [] ps f p G = G
  came area made (stop reply ∷ es) ps f p G = (0, omega arith, G)
  came area made (offer x z floor ceiling ∷ es) ps f p G =
      let new : Span = record { floor = floor; ceiling = ceiling; area = area } in
      let c = x + z * w in
      let I = p.0 in
      by-test (insert th f c new).accepted
      (λ e. rw e (came-next area made x z floor ceiling es ps (carry w th area (made + 1) (insert th f c new).field es)
      (came area (made + 1) es (record { column = c; span = new } ∷ ps) (insert th f c new).field p.1
      (same (λ i. in-front (eqb c i) new (in_column i ps) (A i)) (grows G c (cell_below x z w h I.column I.row) new th (omega (arith, I.some-height)) e)))))
      (λ e. rw e (0, omega arith, G))

  -- a mesh of `total` triangles, of which those before number t are done
  module _ (total : ℕ) (proper : (t : ℕ) → Proper w h (works t).events) where
    mesh-next : (count t : ℕ) (c : Carried) → Came (works t).area 0 (works t).events (put_all w works t) c
        → ((g : Field) → Put (put_all w works (suc t)) g → let o = carry_mesh w th works count (suc t) 0 g in Put (put_said w works total (says_of o).number (says_of o).values) (leaves o))
        → let o = onward w th c t (λ g. carry_mesh w th works count (suc t) 0 g) in Put (put_said w works total (says_of o).number (says_of o).values) (leaves o)
    mesh-next count t (went m g) C go = go g C
    mesh-next count t (stopped reply m g) C go = let e : m ≡ C.0 = omega (arith, C.1) in rw e C.2

    pub mesh-grows : (count t : ℕ) (f : Field) → t + count ≡ total → Put (put_all w works t) f → let o = carry_mesh w th works count t 0 f in Put (put_said w works total (says_of o).number (says_of o).values) (leaves o)
    unfolding carry_mesh
    mesh-grows zero t f e G = let q : t ≡ total = omega (arith, e) in rw q at G
    mesh-grows (suc count) t f e G =
        mesh-next count t (carry w th (works t).area 0 f (works t).events) (came (works t).area 0 (works t).events (put_all w works t) f (proper t) G)
        (λ g P. mesh-grows count (suc t) g (omega (arith, e)) P)
