-- Cursors in the columns beside: they serve an agent that needs more, and move up past spans under floors that are too low.
use mathlib.Core.Path.{◌≡◌, refl, sym, ap, ◌∙◌}
use mathlib.Core.Logic.{◌≢◌}
use mathlib.Core.List.{List, [], ◌∷◌, map}
use Prim.Native.Nat.{ℕ, suc, ◌+◌, ◌-◌, ◌<◌, ◌≤◌}
use native.Mathlib.Omega.{arith}
use lib.ListN.{length, get_or}
use Rattle.field.specs.declared.Span.{Span}
use Rattle.field.specs.Spans.{Ascends}
use Rattle.field.specs.Slots.{none, Contents, contents, span_at, range_at, slots}
use Rattle.field.specs.Field.{Field, column_at, spans, Holds}
use Rattle.field.specs.Inner.{Chain}
use Rattle.field.specs.Walkable.{roof}
use Rattle.field.specs.Ledges.{Stand}
use Rattle.field.specs.LedgeTest.{View, outset, looked, looked_at}
use Rattle.field.specs.FilterCode.{roof_at, around, greatest, hollow_of, Inside, Cursor, Cursors}
use Rattle.field.proofs.Walking.{asc-lower}
use Rattle.field.proofs.Chains.{chain-cons}
use Rattle.field.proofs.Holding.{column-chain}
use Rattle.field.proofs.Upward.{roof-of}
use Rattle.field.proofs.Looking.{looked-skip}

-- a column's lowest slot is a cursor for every agent
pub cursor-start : (k : Contents) {nx : List ℕ} {h : ℕ} (ss : List ℕ) → Chain nx h ss → Ascends 0 (map (range_at k) ss) → Cursor k nx 0 (map (span_at k) ss) h
cursor-start k ss c r = record { rest = ss; chain = c; climbs = r; enough = λ st v l. refl }

-- a cursor serves an agent that needs more
pub cursor-more : {k : Contents} {nx : List ℕ} {m : ℕ} {whole : List Span} {r : ℕ} (n : ℕ) → m ≤ n → Cursor k nx m whole r → Cursor k nx n whole r
cursor-more n l c = record { rest = c.rest; chain = c.chain; climbs = c.climbs; enough = λ st v q. c.enough st v (omega arith) }

-- and may pass a span under a floor that is too low for them
pub cursor-next : {k : Contents} {nx : List ℕ} {m : ℕ} {whole : List Span} {r : ℕ} → Cursor k nx m whole r → r ≢ none → ((tl : List ℕ) → Chain nx (get_or nx r 0) tl → roof (map (span_at k) tl) < m) → Cursor k nx m whole (get_or nx r 0)
cursor-next {k} {nx} {m} {whole} {r} c n low =
    let s = chain-cons c.rest c.chain n in
    let climbs : Ascends 0 (map (range_at k) (r ∷ s.0)) = rw s.1 at c.climbs in
    record {
      rest = s.0;
      chain = s.2;
      climbs = asc-lower 0 (suc (get_or k.ceilings r 0)) (map (range_at k) s.0) (omega arith) climbs.2;
      enough = λ st v q.
          rw s.1 at (c.enough st v q) ∙ looked-skip st v (span_at k r) (map (span_at k) s.0) (omega (arith, low s.0 s.2));
    }

pub cursors-more : (k : Contents) (nx : List ℕ) (m n : ℕ) (at : ℕ → List Span) (ks rs : List ℕ) → m ≤ n → Cursors k nx m at ks rs → Cursors k nx n at ks rs
cursors-more k nx m n at [] [] l c = c
cursors-more k nx m n at [] (r ∷ rs) l c = c
cursors-more k nx m n at (j ∷ ks) [] l c = c
cursors-more k nx m n at (j ∷ ks) (r ∷ rs) l c = (cursor-more n l c.0, cursors-more k nx m n at ks rs l c.1)

-- what is seen from a cursor up is what is seen of the column
pub cursor-look : {k : Contents} {nx : List ℕ} {m : ℕ} {whole : List Span} {r : ℕ} (c : Cursor k nx m whole r) (st : Stand) (v w : View) → m ≤ st.top + st.height → w ≡ looked st v (map (span_at k) c.rest) → w ≡ looked st v whole
cursor-look c st v w l e = e ∙ sym (c.enough st v l)

-- so one column after another
pub look-around : (st : Stand) (at : ℕ → List Span) (w i : ℕ) (a b c d : View) → a ≡ looked st (outset st) (at (i - 1)) → b ≡ looked st a (at (i + w)) → c ≡ looked st b (at (i + 1)) → d ≡ looked st c (at (i - w)) → d ≡ looked_at st at (around w i)
look-around st at w i a b c d p q r s =
    s
    ∙ ap (λ (v : View). looked st v (at (i - w)))
    (r ∙ ap (λ (v : View). looked st v (at (i + 1))) (q ∙ ap (λ (v : View). looked st v (at (i + w))) p))

-- ---- in a field

module _ {heads : List ℕ} {free : ℕ} {fl ce ar nx : List ℕ} {f : Field} (H : Holds heads (slots free fl ce ar nx) f) where
  -- the lowest slot of a column
  pub cursor-first : (k : ℕ) → k < length heads → Cursor (contents fl ce ar) nx 0 (spans f k) (get_or heads k 0)
  cursor-first k l =
      rw H.contents (cursor-start (contents fl ce ar) (column_at f k) (column-chain H k l) (rw H.contents at (H.ascends k l)))

  -- and its floor
  pub roof-first : (k : ℕ) → k < length heads → roof (spans f k) ≡ roof_at fl (get_or heads k 0)
  roof-first k l = rw H.contents (roof-of (contents fl ce ar) (column_at f k) (column-chain H k l))

  module _ (w i : ℕ) (a : i - 1 < length heads) (b : i + w < length heads) (c : i + 1 < length heads) (d : i - w < length heads) where
    pub cursors-first : Cursors (contents fl ce ar) nx 0 (spans f) (around w i) (map (λ k. get_or heads k 0) (around w i))
    cursors-first = (cursor-first (i - 1) a, (cursor-first (i + w) b, (cursor-first (i + 1) c, (cursor-first (i - w) d, tt))))

    pub hollow-first : greatest (map (roof_at fl) (map (λ k. get_or heads k 0) (around w i))) ≡ hollow_of (spans f) (around w i)
    hollow-first = rw (roof-first (i - 1) a, roof-first (i + w) b, roof-first (i + 1) c, roof-first (i - w) d)

-- the four columns are on the grid
pub around-inside : (w i n : ℕ) → i + w < n → i + 1 < n → n ≤ none → Inside (around w i)
around-inside w i n a b few = (λ e. omega arith, (λ e. omega arith, (λ e. omega arith, (λ e. omega arith, tt))))
