-- The columns' open spaces stored one column after another: what is left of the columns ends as all of them would.
use mathlib.Core.Path.{◌≡◌, refl, sym, ap, ◌∙◌}
use mathlib.Core.Bool.{cond}
use mathlib.Core.List.{List, [], ◌∷◌, map, flatten}
use Prim.Native.Nat.{ℕ, suc, ◌+◌, ◌-◌, ◌*◌, ◌<◌, ◌≤◌}
use native.Mathlib.Omega.{arith}
use lib.ListN.{length, get_or, set, drop, length-set}
use lib.Seq.{sets, set-set, get_or-set_same}
use lib.Dec.{eqb}
use Rattle.field.specs.declared.Span.{Span}
use Rattle.field.specs.Slots.{contents, span_at, slots}
use Rattle.field.specs.Field.{Field, column_at, Holds}
use Rattle.field.specs.Inner.{Chain}
use Rattle.field.specs.Open.{Open, opens, columns_of, cells, index_of, indices}
use Rattle.field.specs.Compact.{Rows, Result, result_of, Room, Few}
use Rattle.field.specs.Rowing.{laid, raised_by, Layable, Laid, Filled}
use Rattle.field.proofs.Holding.{column-chain}
use Rattle.field.proofs.Lists.{flatten-next, flatten-split}
use Rattle.field.proofs.Opening.{earlier, cell_at, cells_wide, column-spans, cell-spans, columns-cons, columns-end}
use Rattle.field.proofs.Laying.{laid-append, Alike, alike_refl, alike-laid, room-alike}

-- a count set to 0 and raised
pub raised-fresh : (counts : List ℕ) (i n : ℕ) → i < length counts → raised_by (set counts i 0) i n ≡ set counts i n
raised-fresh counts i n l =
    let e : get_or (set counts i 0) i 0 + n ≡ n = omega (arith, get_or-set_same counts i 0 0 l) in
    set-set counts i 0 (get_or (set counts i 0) i 0 + n) ∙ ap (set counts i) e

-- ---- what does not depend on the field

pub record Shape (heads : List ℕ) (t₀ t : Result) (i k : ℕ) : Type 0 where
  pub within : i ≤ length heads
  pub below : k ≤ 255 * i
  pub indices : length t.indices ≡ length t₀.indices
  pub counts : length t.counts ≡ length t₀.counts
  pub rows : Alike t.rows t₀.rows

pub shape-start : (heads : List ℕ) (t : Result) → Shape heads t t 0 0
shape-start heads t = record { within = omega arith; below = omega arith; indices = refl; counts = refl; rows = alike_refl t.rows }

-- ---- the columns

pub record Filling (columns : List (List Span)) (t₀ t : Result) (i k : ℕ) : Type 0 where
  pub indices : sets t.indices i (indices k (drop i columns)) ≡ sets t₀.indices 0 (indices 0 columns)
  pub counts : sets t.counts i (map length (cells (drop i columns))) ≡ sets t₀.counts 0 (map length (cells columns))
  pub rows : laid t.rows k (flatten (cells (drop i columns))) ≡ laid t₀.rows 0 (flatten (cells columns))
  pub place : k ≡ earlier columns i

pub filling-start : (columns : List (List Span)) (t : Result) → Filling columns t t 0 0
unfolding flatten
filling-start columns t = record { indices = refl; counts = refl; rows = refl; place = refl }

laid-flatten : (t : Rows) (k : ℕ) (c : List Open) (cs : List (List Open)) → laid t k (flatten (c ∷ cs)) ≡ laid (laid t k c) (k + length c) (flatten cs)
unfolding flatten
laid-flatten t k c cs = laid-append t k c (flatten cs)

module _ {heads : List ℕ} {free : ℕ} {fl ce ar nx : List ℕ} {f : Field} (H : Holds heads (slots free fl ce ar nx) f) {i : ℕ} (l : i < length heads) where
  in_cells : i < length (cells (columns_of f))
  in_cells = omega (arith, cells_wide H)

  -- the cell is no longer than what is left, and not too long for its count
  pub cell_room : {k : ℕ} → k ≡ earlier (columns_of f) i → k + length (opens (map (span_at (contents fl ce ar)) (column_at f i))) ≤ length (flatten (cells (columns_of f)))
  cell_room {k} e =
      omega (arith, flatten-next (cells (columns_of f)) i in_cells, flatten-split (cells (columns_of f)) (suc i), ap length (cell-spans H i))

  pub cell-few : Few (cells (columns_of f)) → length (opens (map (span_at (contents fl ce ar)) (column_at f i))) ≤ 255
  cell-few few = omega (arith, few i in_cells, ap length (cell-spans H i))

  -- so it can be stored once its count is 0
  pub cell-layable : {t₀ : Result} {ix sz : List ℕ} {t : Rows} {k : ℕ} → Few (cells (columns_of f)) → Room (length (flatten (cells (columns_of f)))) t₀.rows → i < length sz → Shape heads t₀ (result_of ix sz t) i k → Filling (columns_of f) t₀ (result_of ix sz t) i k → Layable (contents fl ce ar) (column_at f i) t k (set sz i 0) i
  cell-layable {sz = sz} few room cell p q =
      record {
        room = room-alike (cell_room q.place) p.rows room;
        cell = rw (length-set sz i 0) cell;
        under = rw (get_or-set_same sz i 0 0 cell) (omega (arith, cell-few few));
      }

  count-is : length (opens (map (span_at (contents fl ce ar)) (column_at f i))) ≡ length (opens (get_or (columns_of f) i []))
  count-is = ap (λ (c : List Span). length (opens c)) (sym (column-spans H i))

  -- column `i` is stored, in rows `t` from place `k` on
  module _ {t : Rows} {k : ℕ} (sz : List ℕ) {t' : Rows} {k' : ℕ} {sz' : List ℕ} (cell : i < length sz)
      (L : (ss : List ℕ) → Chain nx (get_or heads i 0) ss → Laid (contents fl ce ar) ss t k (set sz i 0) i t' k' sz') where
    stored : Laid (contents fl ce ar) (column_at f i) t k (set sz i 0) i t' k' sz'
    stored = L (column_at f i) (column-chain H i l)

    pub stored-place : k' ≡ k + length (opens (get_or (columns_of f) i []))
    stored-place = omega (arith, stored.place, count-is)

    stored-counts : sz' ≡ set sz i (length (opens (get_or (columns_of f) i [])))
    stored-counts = stored.counts ∙ raised-fresh sz i _ cell ∙ ap (set sz i) count-is

    stored-rows : t' ≡ laid t k (opens (get_or (columns_of f) i []))
    stored-rows = stored.rows ∙ ap (λ (c : List Span). laid t k (opens c)) (sym (column-spans H i))

    -- the index that is stored is the rule's
    pub stored-index : {v : ℕ} → v ≡ cond (eqb (k' - k) 0) 0 k → v ≡ index_of k (get_or (columns_of f) i [])
    stored-index e =
        let n : k' - k ≡ length (opens (get_or (columns_of f) i [])) = omega (arith, stored-place) in
        e ∙ ap (λ (m : ℕ). cond (eqb m 0) 0 k) n

    pub filling_step : {t₀ : Result} {ix : List ℕ} (v : ℕ) → Filling (columns_of f) t₀ (result_of ix sz t) i k → v ≡ index_of k (get_or (columns_of f) i []) → Filling (columns_of f) t₀ (result_of (set ix i v) sz' t') (suc i) k'
    filling_step v p ev =
        let c = get_or (columns_of f) i [] in
        let cs = drop (suc i) (columns_of f) in
        let split = columns-cons H i l in
        record {
          indices = rw (ev, stored-place) (rw split at p.indices);
          counts = rw stored-counts (rw split at p.counts);
          rows = rw (stored-place, stored-rows) (sym (laid-flatten t k (opens c) (cells cs)) ∙ rw split at p.rows);
          place = omega (arith, p.place, stored-place, flatten-next (cells (columns_of f)) i in_cells, ap length (cell_at (columns_of f) i));
        }

    pub shape-step : {t₀ : Result} {ix : List ℕ} (v : ℕ) → Shape heads t₀ (result_of ix sz t) i k → length (opens (map (span_at (contents fl ce ar)) (column_at f i))) ≤ 255 → Shape heads t₀ (result_of (set ix i v) sz' t') (suc i) k'
    shape-step {ix = ix} v p few =
        record {
          within = l;
          below = omega (arith, p.below, stored.place);
          indices = length-set ix i v ∙ p.indices;
          counts = ap length stored-counts ∙ length-set sz i (length (opens (get_or (columns_of f) i []))) ∙ p.counts;
          rows = alike-laid k (opens (get_or (columns_of f) i [])) stored-rows p.rows;
        }

pub filling-end : {heads : List ℕ} {free : ℕ} {fl ce ar nx : List ℕ} {f : Field} (H : Holds heads (slots free fl ce ar nx) f) {t₀ t : Result} {i k : ℕ} → i ≡ length heads → Filling (columns_of f) t₀ t i k → Filled (columns_of f) t₀ t
unfolding flatten
filling-end H {i = i} e p =
    let z = columns-end H i e in
    record { indices = rw z at p.indices; counts = rw z at p.counts; rows = rw z at p.rows }
