-- Open spaces stored one after another, and a walk up a column that stores them and raises the count of its cell.
use mathlib.Core.Path.{◌≡◌, refl, sym, ap, ◌∙◌}
use mathlib.Core.Logic.{◌≢◌}
use mathlib.Core.List.{List, [], ◌∷◌, ◌++◌, map}
use Prim.Native.Nat.{ℕ, suc, ◌+◌, ◌<◌, ◌≤◌}
use native.Mathlib.Omega.{arith}
use native.Mathlib.Nat.{add-zero}
use lib.ListN.{length, get_or, set, length-append, length-set}
use lib.Seq.{sets, length-sets, set-set, set-get_or, get_or-set_same}
use Rattle.field.specs.Slots.{none, contents, span_at, slots, Sized}
use Rattle.field.specs.Inner.{Chain}
use Rattle.field.specs.Walkable.{roof}
use Rattle.field.specs.Open.{Open, open_above, opens}
use Rattle.field.specs.Compact.{Rows, rows, Room}
use Rattle.field.specs.Rowing.{bare_word, laid, raised_by, Layable, Laid}
use Rattle.field.proofs.Chains.{chain-cons, chain-nil, chain-unique, chain-slot}

-- ---- rows

sets-map : (g : Open → ℕ) (l : List ℕ) (k : ℕ) (xs ys : List Open) → sets l k (map g (xs ++ ys)) ≡ sets (sets l k (map g xs)) (k + length xs) (map g ys)
sets-map g l k [] ys = rw (add-zero k)
sets-map g l k (x ∷ xs) ys =
    sets-map g (set l k (g x)) (suc k) xs ys
    ∙ ap (λ (n : ℕ). sets (sets (set l k (g x)) (suc k) (map g xs)) n (map g ys)) (omega arith)

pub laid-append : (t : Rows) (k : ℕ) (xs ys : List Open) → laid t k (xs ++ ys) ≡ laid (laid t k xs) (k + length xs) ys
laid-append t k xs ys =
    λ i. rows (sets-map (λ o. o.y) t.ys k xs ys i) (sets-map bare_word t.words k xs ys i) (sets-map (λ o. o.area) t.areas k xs ys i)

-- rows of the same lengths
pub record Alike (t t₀ : Rows) : Type 0 where
  pub ys : length t.ys ≡ length t₀.ys
  pub words : length t.words ≡ length t₀.words
  pub areas : length t.areas ≡ length t₀.areas

pub alike_refl : (t : Rows) → Alike t t
alike_refl t = record { ys = refl; words = refl; areas = refl }

pub alike-laid : {t' t t₀ : Rows} (k : ℕ) (os : List Open) → t' ≡ laid t k os → Alike t t₀ → Alike t' t₀
alike-laid {t'} {t} k os e a =
    record {
      ys = rw e (length-sets t.ys k (map (λ o. o.y) os) ∙ a.ys);
      words = rw e (length-sets t.words k (map bare_word os) ∙ a.words);
      areas = rw e (length-sets t.areas k (map (λ o. o.area) os) ∙ a.areas);
    }

pub room-alike : {n m : ℕ} {t t₀ : Rows} → n ≤ m → Alike t t₀ → Room m t₀ → Room n t
room-alike l a r =
    record { ys = omega (arith, a.ys, r.ys); words = omega (arith, a.words, r.words); areas = omega (arith, a.areas, r.areas) }

-- ---- counts

pub raised-none : (counts : List ℕ) (i : ℕ) → raised_by counts i 0 ≡ counts
raised-none counts i = rw (add-zero (get_or counts i 0)) (set-get_or counts i 0)

raised-twice : (counts : List ℕ) (i a b : ℕ) → i < length counts → raised_by (raised_by counts i a) i b ≡ raised_by counts i (a + b)
raised-twice counts i a b l =
    let n = get_or counts i 0 + a in
    let e : get_or (set counts i n) i 0 + b ≡ get_or counts i 0 + (a + b) = omega (arith, get_or-set_same counts i n 0 l) in
    set-set counts i n (get_or (set counts i n) i 0 + b) ∙ ap (set counts i) e

-- ---- a column

-- With the open spaces so far stored, up to place `k`, those left end as all of the column would from `start` on.
pub record Laying (fl ce ar nx : List ℕ) (head column : ℕ) (t₀ : Rows) (counts₀ : List ℕ) (start : ℕ) (t : Rows) (counts : List ℕ) (k at : ℕ) : Type 0 where
  pub ss : List ℕ
  pub left : List ℕ
  pub whole : Chain nx head ss
  pub here : Chain nx at left
  pub sized : Sized (slots 0 fl ce ar nx)
  pub alike : Alike t t₀
  pub room : Room (start + length (opens (map (span_at (contents fl ce ar)) ss))) t₀
  pub reach : k + length (opens (map (span_at (contents fl ce ar)) left)) ≡ start + length (opens (map (span_at (contents fl ce ar)) ss))
  pub onward : laid t k (opens (map (span_at (contents fl ce ar)) left)) ≡ laid t₀ start (opens (map (span_at (contents fl ce ar)) ss))
  pub counted : length counts ≡ length counts₀
  pub cell : column < length counts
  pub under : get_or counts column 0 + length (opens (map (span_at (contents fl ce ar)) left)) ≤ 255
  pub raised : raised_by counts column (length (opens (map (span_at (contents fl ce ar)) left))) ≡ raised_by counts₀ column (length (opens (map (span_at (contents fl ce ar)) ss)))

pub laying-start : {fl ce ar nx : List ℕ} {head column : ℕ} {t : Rows} {counts : List ℕ} {start : ℕ} (ss : List ℕ) → Sized (slots 0 fl ce ar nx) → Chain nx head ss → Layable (contents fl ce ar) ss t start counts column → Laying fl ce ar nx head column t counts start t counts start head
laying-start {t = t} ss z c r =
    record {
      ss = ss;
      left = ss;
      whole = c;
      here = c;
      sized = z;
      alike = alike_refl t;
      room = r.room;
      reach = refl;
      onward = refl;
      counted = refl;
      cell = r.cell;
      under = r.under;
      raised = refl;
    }

module _ {fl ce ar nx : List ℕ} {head column : ℕ} {t₀ : Rows} {counts₀ : List ℕ} {start : ℕ} {t : Rows} {counts : List ℕ} {k at : ℕ} (p : Laying fl ce ar nx head column t₀ counts₀ start t counts k at) where
  pub laying-slot : at ≢ none → (at < length nx) × (length nx ≤ none)
  laying-slot n = (chain-slot p.left p.here n, p.here.few)

  pub laying-roof : at ≢ none → get_or nx at 0 ≢ none → get_or nx at 0 < length fl
  laying-roof n m =
      let q = chain-cons p.left p.here n in
      omega (arith, chain-slot q.0 q.2 m, p.sized.floors)

  module _ (n : at ≢ none) (top : ℕ) (up : (tl : List ℕ) → Chain nx (get_or nx at 0) tl → top ≡ roof (map (span_at (contents fl ce ar)) tl)) where
    -- the next of those left
    here-cons : (tl : List ℕ) × Chain nx (get_or nx at 0) tl × (opens (map (span_at (contents fl ce ar)) p.left) ≡ open_above (span_at (contents fl ce ar) at) top ++ opens (map (span_at (contents fl ce ar)) tl))
    here-cons =
        let q = chain-cons p.left p.here n in
        let at' = span_at (contents fl ce ar) in (
          q.0,
          q.2,
          ap (λ (l : List ℕ). opens (map at' l)) q.1
              ∙ ap (λ (m : ℕ). open_above (at' at) m ++ opens (map at' q.0)) (sym (up q.0 q.2)),
        )

    here-length : let q = here-cons in length (opens (map (span_at (contents fl ce ar)) p.left)) ≡ length (open_above (span_at (contents fl ce ar) at) top) + length (opens (map (span_at (contents fl ce ar)) q.0))
    here-length =
        let q = here-cons in
        ap length q.2 ∙ length-append (open_above (span_at (contents fl ce ar) at) top) (opens (map (span_at (contents fl ce ar)) q.0))

    pub laying-room : Room (k + length (open_above (span_at (contents fl ce ar) at) top)) t
    laying-room = room-alike (omega (arith, p.reach, here-length)) p.alike p.room

    pub laying-under : get_or counts column 0 + length (open_above (span_at (contents fl ce ar) at) top) ≤ 255
    laying-under = omega (arith, p.under, here-length)

    pub laying-step : {k' : ℕ} {t' : Rows} {counts' : List ℕ} → k' ≡ k + length (open_above (span_at (contents fl ce ar) at) top) → t' ≡ laid t k (open_above (span_at (contents fl ce ar) at) top) → counts' ≡ raised_by counts column (length (open_above (span_at (contents fl ce ar) at) top)) → Laying fl ce ar nx head column t₀ counts₀ start t' counts' k' (get_or nx at 0)
    laying-step {k'} {t'} {counts'} ek et ec =
        let q = here-cons in
        let s = open_above (span_at (contents fl ce ar) at) top in
        let os = opens (map (span_at (contents fl ce ar)) q.0) in
        let l = here-length in
        let n : length counts' ≡ length counts = rw ec (length-set counts column (get_or counts column 0 + length s)) in
        record {
          ss = p.ss;
          left = q.0;
          whole = p.whole;
          here = q.1;
          sized = p.sized;
          alike = alike-laid k s et p.alike;
          room = p.room;
          reach = omega (arith, p.reach);
          onward = rw (et, ek) (sym (laid-append t k s os) ∙ sym (ap (λ (x : List Open). laid t k x) q.2) ∙ p.onward);
          counted = n ∙ p.counted;
          cell = omega (arith, p.cell);
          under = rw ec (omega (arith, p.under, get_or-set_same counts column (get_or counts column 0 + length s) 0 p.cell));
          raised = rw ec (raised-twice counts column (length s) (length os) p.cell ∙ ap (raised_by counts column) (sym l) ∙ p.raised);
        }

  -- what has been stored when the column ends
  pub laying-end : at ≡ none → (ss : List ℕ) → Chain nx head ss → Laid (contents fl ce ar) ss t₀ start counts₀ column t k counts
  laying-end n ss c =
      let z = chain-nil p.left p.here n in
      let u = chain-unique c p.whole in
      record {
        place = rw (u, ← p.reach, z) (sym (add-zero k));
        rows = rw u (rw z at p.onward);
        counts = rw u (sym (raised-none counts column) ∙ rw z at p.raised);
      }
