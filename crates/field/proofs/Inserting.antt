-- An insertion keeps that the store holds the field, and its column becomes what the rule says.
use mathlib.Core.Path.{◌≡◌, sym, ap, ◌∙◌}
use mathlib.Core.Logic.{◌≢◌}
use mathlib.Core.List.{List, [], ◌∷◌, ◌++◌, map, foldl, map-append}
use Prim.Native.Nat.{ℕ, ◌+◌, ◌<◌, ◌≤◌}
use native.Mathlib.Omega.{arith}
use native.Mathlib.Decide.{ℕ_discrete}
use lib.ListN.{length, get_or, set, length-set}
use lib.Seq.{get_or-set_same, get_or-set_other}
use Rattle.field.specs.declared.Span.{Span}
use Rattle.field.specs.Spans.{range, Ascends, Walk, walk_up}
use Rattle.field.specs.Slots.{none, Contents, span_at, range_at, put, Slots, Run, same, times, times_in}
use Rattle.field.specs.Field.{Field, column_at, Holds, release}
use Rattle.field.specs.Inner.{first_or, last_or, give_back, fill, link_heads, link_nexts}
use Rattle.field.proofs.Basics.{by-dec}
use Rattle.field.proofs.Counting.{same-eq, times-append, times_in-one, times_in-two, times_in-set}
use Rattle.field.proofs.Chains.{run_in, run-split, run_agree, away-last}
use Rattle.field.proofs.Contents.{Long, long-put, sized-long, long-sized, put_same, put_other, map-agree, ranges-spans}
use Rattle.field.proofs.Walking.{walk-parted, below-from}
use Rattle.field.proofs.Giving.{Given, given}
use Rattle.field.proofs.Holding.{at_most}
use Rattle.field.proofs.Linking.{link-other, link-length, link-heads-other, link-heads-length, run-column}

-- the slots once the front of the free chain has the span, and is linked between `before` and `next`
abbrev pub placed : Slots → Span → ℕ → ℕ → Slots
placed t span next before =
    let t₂ = fill t span next in
    record { free = t₂.free; contents = t₂.contents; nexts = link_nexts t₂.nexts before t.free }

-- ---- a column in three parts, of which the middle one is given back

module _
    {heads : List ℕ}
    {t : Slots}
    {f : Field}
    (H : Holds heads t f)
    (i : ℕ)
    (lt : i < length heads)
    (low ms up : List ℕ)
    (split : low ++ (ms ++ up) ≡ column_at f i)
  where
    parts : (x : ℕ) → times x low + times x ms + times x up ≡ times x (column_at f i)
    parts x = omega (arith, times-append x low (ms ++ up), times-append x ms up, ap (λ (l : List ℕ). times x l) split)

    -- a slot is in one of them, or free, or in another column
    parts-most : (x : ℕ) → times x low + times x ms + times x up + times x f.spare ≤ 1
    parts-most x = omega (arith, at_most H x, times_in-one x f.columns i, parts x)

    low_run : Run t.nexts (get_or heads i 0) low (first_or none (ms ++ up)) × Run t.nexts (first_or none (ms ++ up)) (ms ++ up) none
    low_run = run-split t.nexts (get_or heads i 0) low (ms ++ up) none (rw split (H.column i lt))

    up_run : Run t.nexts (first_or none up) up none
    up_run = (run-split t.nexts (first_or none (ms ++ up)) ms up none low_run.1).1

    pub parts-given : Given t f ms (foldl give_back t ms) (foldl release f ms)
    parts-given =
        given t f ms H.sized H.contents H.spare
        (λ x p. run_in t.nexts (get_or heads i 0) (column_at f i) none x (H.column i lt) (omega (arith, parts x))) (λ x. omega (arith, parts-most x))

    -- the front of the free chain takes the span
    module _ (t₁ : Slots) (f₁ : Field) (G : Given t f ms t₁ f₁) (q : List ℕ) (front : f₁.spare ≡ t₁.free ∷ q) (span : Span) where
      first_run : Run t₁.nexts t₁.free (t₁.free ∷ q) none
      first_run = rw front at G.spare

      pub slot : t₁.free < length t₁.nexts
      slot = first_run.1

      few₁ : length t₁.nexts ≤ none
      few₁ = rw G.size H.few

      spare-times : (x : ℕ) → times x ms + times x f.spare ≡ same x t₁.free + times x q
      spare-times x = sym (G.count x) ∙ ap (λ (l : List ℕ). times x l) front

      most : (x : ℕ) → times x low + times x up + (same x t₁.free + times x q) ≤ 1
      most x = omega (arith, parts-most x, spare-times x)

      -- of another column's slots none is below, merged, or taken
      other : (j : ℕ) → j ≢ i → (x : ℕ) → 0 < times x (column_at f j) → (times x low ≡ 0) × (times x ms ≡ 0) × (x ≢ t₁.free)
      other j n x p =
          let m = times_in-two x f.columns i j n in
          let k = parts x in
          let l = at_most H x in
          (omega arith, omega arith, λ e. omega (arith, spare-times x, same-eq x t₁.free e))

      -- ---- values

      kept : (x : ℕ) → x ≢ t₁.free → times x ms ≡ 0 → span_at (put f₁.contents t₁.free span) x ≡ span_at f.contents x
      kept x d z = put_other f₁.contents t₁.free span x d ∙ G.value x z

      long₁ : Long (length t₁.nexts) f₁.contents
      long₁ = rw G.contents (sized-long G.sized)

      away : (x : ℕ) → 0 < times x low + times x up → (x ≢ t₁.free) × (times x ms ≡ 0)
      away x p = (λ e. omega (arith, most x, same-eq x t₁.free e), omega (arith, parts-most x))

      pub spans-here : map (span_at (put f₁.contents t₁.free span)) (low ++ t₁.free ∷ up) ≡ map (span_at f.contents) low ++ span ∷ map (span_at f.contents) up
      spans-here =
          let k₃ = put f₁.contents t₁.free span in
          let under : map (span_at k₃) low ≡ map (span_at f.contents) low =
          map-agree (span_at f.contents) (span_at k₃) low (λ x p. let a = away x (omega arith) in kept x a.0 a.1)
          in
          let over : map (span_at k₃) up ≡ map (span_at f.contents) up =
          map-agree (span_at f.contents) (span_at k₃) up (λ x p. let a = away x (omega arith) in kept x a.0 a.1)
          in
          map-append (span_at k₃) low (t₁.free ∷ up) ∙ rw (under, over, put_same t₁.free span long₁ slot)

      pub spans-other : (j : ℕ) → j ≢ i → map (span_at (put f₁.contents t₁.free span)) (column_at f j) ≡ map (span_at f.contents) (column_at f j)
      spans-other j n =
          map-agree (span_at f.contents) (span_at (put f₁.contents t₁.free span)) (column_at f j) (λ x p. let o = other j n x p in kept x o.2 o.1)

      -- ---- chains

      abbrev nx₃ : List ℕ
      nx₃ = (placed t₁ span (first_or none up) (last_or none low)).nexts

      next-other : (x : ℕ) → x ≢ t₁.free → x ≢ last_or none low → get_or nx₃ x 0 ≡ get_or t₁.nexts x 0
      next-other x ns np =
          link-other (set t₁.nexts t₁.free (first_or none up)) (last_or none low) t₁.free x np ∙ get_or-set_other t₁.nexts t₁.free x (first_or none up) 0 ns

      pub placed-size : length nx₃ ≡ length t₁.nexts
      placed-size =
          link-length (set t₁.nexts t₁.free (first_or none up)) (last_or none low) t₁.free ∙ length-set t₁.nexts t₁.free (first_or none up)

      spare₃ : Run nx₃ (get_or t₁.nexts t₁.free 0) q none
      spare₃ =
          run_agree t₁.nexts nx₃ (get_or t₁.nexts t₁.free 0) q none placed-size
          (λ x p.
          next-other x (λ e. omega (arith, most x, same-eq x t₁.free e))
          (away-last x low (omega (arith, most x)) (λ e. omega (arith, few₁, run_in t₁.nexts (get_or t₁.nexts t₁.free 0) q none x first_run.2 p))))
          first_run.2

      column₃ : Run nx₃ (get_or (link_heads heads i (last_or none low) t₁.free) i 0) (low ++ t₁.free ∷ up) none
      column₃ =
          run-column heads t₁.nexts i low t₁.free (first_or none (ms ++ up)) up lt few₁ slot
          (run_agree t.nexts t₁.nexts (get_or heads i 0) low (first_or none (ms ++ up)) G.size (λ x p. G.next x (omega (arith, parts-most x))) low_run.0)
          (run_agree t.nexts t₁.nexts (first_or none up) up none G.size (λ x p. G.next x (omega (arith, parts-most x))) up_run)
          (λ x. omega (arith, most x))

      other₃ : (j : ℕ) → j < length heads → j ≢ i → Run nx₃ (get_or heads j 0) (column_at f j) none
      other₃ j l n =
          run_agree t.nexts nx₃ (get_or heads j 0) (column_at f j) none (placed-size ∙ G.size)
          (λ x p.
          let o = other j n x p in
          next-other x o.2 (away-last x low o.0 (λ e. omega (arith, H.few, run_in t.nexts (get_or heads j 0) (column_at f j) none x (H.column j l) p)))
          ∙ G.next x o.1)
          (H.column j l)

      once₃ : (x : ℕ) → x < length t.nexts → times_in x (set f.columns i (low ++ t₁.free ∷ up)) + times x q ≡ 1
      once₃ x l =
          omega (
            arith,
            times_in-set x f.columns i (low ++ t₁.free ∷ up) (rw H.wide lt),
            times-append x low (t₁.free ∷ up),
            parts x,
            spare-times x,
            H.once x l,
          )

      -- ---- the field

      abbrev pub field₃ : Field
      field₃ =
          record { columns = set f.columns i (low ++ t₁.free ∷ up); spare = q; contents = put f₁.contents t₁.free span }

      pub column-here : column_at field₃ i ≡ low ++ t₁.free ∷ up
      column-here = get_or-set_same f.columns i (low ++ t₁.free ∷ up) [] (rw H.wide lt)

      pub column-other : (j : ℕ) → j ≢ i → column_at field₃ j ≡ column_at f j
      column-other j n = get_or-set_other f.columns i j (low ++ t₁.free ∷ up) [] n

      ascends-other : (j : ℕ) → j < length heads → j ≢ i → Ascends 0 (map (range_at (put f₁.contents t₁.free span)) (column_at f j))
      ascends-other j l n =
          let k₃ = put f₁.contents t₁.free span in
          let e : map (range_at k₃) (column_at f j) ≡ map (range_at f.contents) (column_at f j) =
          sym (ranges-spans k₃ (column_at f j)) ∙ ap (map range) (spans-other j n) ∙ ranges-spans f.contents (column_at f j)
          in
          rw e (H.ascends j l)

      pub holds-placed : Ascends 0 (map (range_at (put f₁.contents t₁.free span)) (low ++ t₁.free ∷ up)) → Holds (link_heads heads i (last_or none low) t₁.free) (placed t₁ span (first_or none up) (last_or none low)) field₃
      holds-placed asc =
          let same-heads : length (link_heads heads i (last_or none low) t₁.free) ≡ length heads = link-heads-length heads i (last_or none low) t₁.free in
          record {
            sized = long-sized (rw placed-size (long-put t₁.free span (sized-long G.sized)));
            few = rw placed-size few₁;
            wide = length-set f.columns i (low ++ t₁.free ∷ up) ∙ H.wide ∙ sym same-heads;
            contents = ap (λ (k : Contents). put k t₁.free span) G.contents;
            column =
                λ j l.
                by-dec (ℕ_discrete j i) (λ e. rw (e, column-here) column₃)
                (λ n. rw (column-other j n, link-heads-other heads i (last_or none low) t₁.free j n) (other₃ j (rw same-heads at l) n));
            spare = spare₃;
            once = λ x l. once₃ x (omega (arith, placed-size, G.size));
            ascends =
                λ j l.
                by-dec (ℕ_discrete j i) (λ e. rw (e, column-here) asc) (λ n. rw (column-other j n) (ascends-other j (rw same-heads at l) n));
          }

-- ---- the insertion of the rules

-- the walk of the new span up its column
abbrev pub walk_of : ℕ → Field → ℕ → Span → Walk ℕ
walk_of th f i new = walk_up (span_at f.contents) th new (column_at f i)

module _ {heads : List ℕ} {t : Slots} {f : Field} (H : Holds heads t f) (i : ℕ) (lt : i < length heads) (new : Span) (th : ℕ) where
  pub walk_split : (walk_of th f i new).passed ++ ((walk_of th f i new).merged ++ (walk_of th f i new).above) ≡ column_at f i
  walk_split =
      let p = walk-parted f.contents 0 th new (column_at f i) (H.ascends i lt) in
      rw (p.passed, p.others) (below-from f.contents.ceilings new.floor (column_at f i))

  pub walk-given : Given t f (walk_of th f i new).merged (foldl give_back t (walk_of th f i new).merged) (foldl release f (walk_of th f i new).merged)
  walk-given = parts-given H i lt (walk_of th f i new).passed (walk_of th f i new).merged (walk_of th f i new).above walk_split
