-- Of what a part keeps: one vertex more of a part that is written down, and of one that keeps the heights alone.
use mathlib.Core.Path.{◌≡◌, ap, ◌∙◌}
use mathlib.Core.List.{List, [], ◌∷◌, ◌++◌, map, map-append, foldl-append}
use Prim.Native.Nat.{ℕ, suc, ◌+◌, ◌≤◌, ◌<◌}
use native.Mathlib.Nat.{add-zero, zero-add, add-suc, suc-add}
use native.Mathlib.Numerals.{add-one}
use native.Mathlib.Omega.{arith}
use borrow.Author.Tests.{leb-true}
use mathlib.Core.Bool.{cond}
use lib.Ieee.{Float}
use lib.ListN.{length, set, take, drop, get_or}
use lib.Seq.{sets, set_out, sets-eq, take-suc, take-append_seam, length-take-le, length-sets}
use Rattle.grid.specs.declared.Corner.{Corner}
use Rattle.clip.specs.declared.cell.Piece.{Piece}
use Rattle.clip.specs.declared.poly.Vertices.{Vertices}
use Rattle.clip.specs.declared.rest.Rest.{Rest}
use Rattle.clip.specs.declared.cut.Axis.{Axis}
use Rattle.clip.specs.Cut.{y_of, fitting, first_of, second_of}
use Rattle.clip.proofs.Rounds.{Fits}
use Rattle.clip.specs.Cell.{piece_holding}
use Rattle.clip.specs.Poly.{held, polygon_holding, polygon_of}
use Rattle.clip.specs.Rest.{left, rest_of}
use Rattle.clip.specs.Slices.{together}
use Rattle.ops.specs.Order.{lesser_of, greater_of}

-- ---- a run of stores in two steps
pub sets-append : {A : Type 0} (l : List A) (i : ℕ) (us vs : List A) → sets l i (us ++ vs) ≡ sets (sets l i us) (i + length us) vs
sets-append l i [] vs = rw (add-zero i)
sets-append l i (u ∷ us) vs = rw (add-suc i (length us), ← suc-add i (length us)) (sets-append (set l i u) (suc i) us vs)

pub polygon-put : (p s : Vertices 14) (vs : List Corner) (at : ℕ) (v : Corner) → length vs ≡ at → p ≡ polygon_holding s vs → record { at = set p.at at v; n = p.n } ≡ polygon_holding s (vs ++ v ∷ [])
polygon-put p s vs at v e h =
    let to : set (sets s.at 0 vs) (length vs) v ≡ sets s.at 0 (vs ++ v ∷ []) = rw (sets-append s.at 0 vs (v ∷ []), zero-add (length vs)) in
    rw (h, ← e, to)

-- the same where there is no room for it: it is not written
pub polygon-full : (p s : Vertices 14) (vs : List Corner) (at : ℕ) (v : Corner) → length vs ≡ at → length p.at ≤ at → p ≡ polygon_holding s vs → p ≡ polygon_holding s (vs ++ v ∷ [])
polygon-full p s vs at v e full h = rw (set_out p.at at v full) at (polygon-put p s vs at v e h)

-- what was written from the first place on is read back
pub held-made : (p : Vertices 14) (vs : List Corner) → length vs ≤ length p.at → held (polygon_of p vs) ≡ vs
held-made p vs h = rw (sets-eq vs p.at 0 (omega (arith, h))) (take-append_seam vs (drop (0 + length vs) p.at))

-- the same of what remains of such a part
pub rest-made : (r : Rest) (vs : List Corner) {s : Rest} → s ≡ rest_of r vs → length s.one.at ≡ 14 → length vs ≤ 14 → left s ≡ vs
rest-made r vs e room few = ap left e ∙ held-made r.one vs (omega (arith, few, room, ap (λ (q : Rest). length q.one.at) e, length-sets r.one.at 0 vs))

-- of a cut that is no error: both parts, and what is read back of one that is written down
module _ {axis : Axis} {offset : Float} {vs : List Corner} (fits : Fits axis offset vs) where
  pub part-made : {P : Type 0} (made old : P) {new : P} → new ≡ cond (fitting vs) made old → new ≡ made
  part-made made old e = e ∙ rw fits.polygon_fits

  pub first-held : (old : Vertices 14) {new : Vertices 14} → length old.at ≡ 14 → new ≡ cond (fitting vs) (polygon_of old (first_of axis offset vs)) old → held new ≡ first_of axis offset vs
  first-held old room e =
      rw (part-made (polygon_of old (first_of axis offset vs)) old e) (held-made old (first_of axis offset vs) (omega (arith, room, leb-true (length (first_of axis offset vs)) 7 fits.first_fits)))

  pub second-held : (old : Vertices 14) {new : Vertices 14} → length old.at ≡ 14 → new ≡ cond (fitting vs) (polygon_of old (second_of axis offset vs)) old → held new ≡ second_of axis offset vs
  second-held old room e =
      rw (part-made (polygon_of old (second_of axis offset vs)) old e) (held-made old (second_of axis offset vs) (omega (arith, room, leb-true (length (second_of axis offset vs)) 7 fits.second_fits)))

  pub first-few : (old : Vertices 14) {new : Vertices 14} → new ≡ cond (fitting vs) (polygon_of old (first_of axis offset vs)) old → new.n ≤ 7
  first-few old e = rw (part-made (polygon_of old (first_of axis offset vs)) old e) (leb-true (length (first_of axis offset vs)) 7 fits.first_fits)

  pub second-few : (old : Vertices 14) {new : Vertices 14} → new ≡ cond (fitting vs) (polygon_of old (second_of axis offset vs)) old → new.n ≤ 7
  second-few old e = rw (part-made (polygon_of old (second_of axis offset vs)) old e) (leb-true (length (second_of axis offset vs)) 7 fits.second_fits)

-- one more of a list's elements is stored
pub store-next : (l us : List Corner) (o : Corner) (i : ℕ) → i < length us → set (sets l 0 (take i us)) i (get_or us i o) ≡ sets l 0 (take (i + 1) us)
store-next l us o i h =
    let n : length (take i us) ≡ i = length-take-le i us (omega arith) in
    rw (add-one i, take-suc us i o h, sets-append l 0 (take i us) (get_or us i o ∷ []), n, zero-add i)

-- ---- the heights
together-one : (choice : Float → Float → Float) (y : Float) (ys : List Float) (z : Float) → together choice (y ∷ ys ++ z ∷ []) ≡ choice (together choice (y ∷ ys)) z
unfolding together
together-one choice y ys z = foldl-append choice y ys (z ∷ [])

module _ (p s : Piece) (vs : List Corner) (at : ℕ) (many : length vs ≡ at) (held : p ≡ piece_holding s vs) where
  pub piece-first : (v : Corner) → at ≡ 0 → record { n = p.n; low = v.y; high = v.y } ≡ piece_holding s (vs ++ v ∷ [])
  unfolding together
  piece-first v z = go vs (omega (arith, many)) held
    where
      go : (us : List Corner) → length us ≡ 0 → p ≡ piece_holding s us → record { n = p.n; low = v.y; high = v.y } ≡ piece_holding s (us ++ v ∷ [])
      go [] e h = rw h
      go (u ∷ us) e h = absurd (omega (arith, e))

  pub piece-more : (v : Corner) (low high : Float) → 0 < at → low ≡ lesser_of p.low v.y → high ≡ greater_of p.high v.y
      → record { n = p.n; low = low; high = high } ≡ piece_holding s (vs ++ v ∷ [])
  piece-more v low high some l g = go vs (omega (arith, many)) held
    where
      go : (us : List Corner) → 0 < length us → p ≡ piece_holding s us → record { n = p.n; low = low; high = high } ≡ piece_holding s (us ++ v ∷ [])
      go [] e h = absurd (omega (arith, e))
      go (u ∷ us) e h =
          rw (l, g, h, map-append y_of us (v ∷ []), together-one lesser_of u.y (map y_of us) v.y, together-one greater_of u.y (map y_of us) v.y)
