-- Of a cut's round: the vertex before the first is the last, what the vertices up to one of them give, and that one more gives its own after it.
use mathlib.Core.Path.{◌≡◌, refl, sym, ◌∙◌}
use mathlib.Core.Bool.{Bool, true, false, ◌&&◌, cond}
use mathlib.Core.List.{List, [], ◌∷◌, ◌++◌, append_assoc, append-nil}
use Prim.Native.Nat.{ℕ, ◌+◌, ◌-◌, ◌≤◌, ◌<◌}
use native.Mathlib.Numerals.{add-one}
use native.Mathlib.Omega.{arith}
use lib.Ieee.{Float, le, lt}
use lib.ListN.{length, take, get_or}
use lib.Seq.{take-suc, take-length}
use borrow.Author.Tests.{le-leb, lt-leb}
use Rattle.std.specs.Prelude.{Option, Some, None, Result, Ok, Err, OnOk}
use Rattle.std.specs.List.{slice_get}
use Rattle.std.proofs.lemmas.Option.{slice_get-get_or}
use Rattle.grid.specs.declared.Corner.{Corner}
use Rattle.clip.specs.declared.cut.Axis.{Axis}
use Rattle.clip.specs.declared.cut.EighthVertex.{EighthVertex}
use Rattle.clip.specs.Cut.{nought, agree, crossing_of, joining, to_first, to_second, distance, onward, last_of, around, fitting, first_of, second_of, cut_of, slice_cut, verdict_of, Cut, parts, eighth}

pub append-two : {A : Type 0} (vs : List A) (c : A) (js : List A) → (vs ++ c ∷ []) ++ js ≡ vs ++ c ∷ js
append-two vs c js = append_assoc vs (c ∷ []) js

-- ---- a vertex gives at most two
at_most_two : (p q r : Bool) (c a : Corner) → length (cond p (joining q a) (c ∷ joining r a)) ≤ 2
at_most_two true true r c a = omega arith
at_most_two true false r c a = omega arith
at_most_two false q true c a = omega arith
at_most_two false q false c a = omega arith

pub first_two : (b a : Corner) (db da : Float) → length (to_first b a db da) ≤ 2
unfolding to_first
first_two b a db da = at_most_two (agree db da) (le nought da) (lt nought da) (crossing_of b a db da) a

pub second-two : (b a : Corner) (db da : Float) → length (to_second b a db da) ≤ 2
unfolding to_second
second-two b a db da = at_most_two (agree db da) (le da nought) (lt da nought) (crossing_of b a db da) a

-- ---- the last vertex
pub none-last : (vs : List Corner) → None ≡ slice_get vs (length vs - 1) → vs ≡ []
none-last [] h = refl
none-last (v ∷ vs) h =
    let e : ◌≡◌ {A = Option Corner} None (Some (get_or (v ∷ vs) (length (v ∷ vs) - 1) v)) = h ∙ slice_get-get_or (v ∷ vs) (length (v ∷ vs) - 1) v (omega arith) in
    let z : ◌≡◌ {A = ℕ} 0 1 = cc in
    absurd (omega arith)

last-is : (v : Corner) (vs : List Corner) → slice_get (v ∷ vs) (length vs) ≡ Some (last_of v vs)
last-is v [] = refl
last-is v (w ∷ vs) = last-is w vs

module _ (gives : Corner → Corner → List Corner) where
  pub around-last : (v : Corner) (vs : List Corner) → Some v ≡ slice_get vs (length vs - 1) → around gives vs ≡ onward gives v vs
  unfolding around onward
  around-last v [] h = refl
  around-last v (w ∷ vs) h =
      let n : length (w ∷ vs) - 1 ≡ length vs = omega arith in
      let e : ◌≡◌ {A = Option Corner} (Some v) (Some (last_of w vs)) = h ∙ rw n (last-is w vs) in
      let k : v ≡ last_of w vs = cc in
      rw k

  pub around-none : (vs : List Corner) → vs ≡ [] → around gives vs ≡ []
  unfolding around
  around-none vs e = rw e

  -- a vertex after some others
  onward-one : (b : Corner) (us : List Corner) (a : Corner) → onward gives b (us ++ a ∷ []) ≡ onward gives b us ++ gives (last_of b us) a
  unfolding onward
  onward-one b [] a = append-nil (gives b a)
  onward-one b (u ∷ us) a = rw (onward-one u us a) (sym (append_assoc (gives b u) (onward gives u us) (gives (last_of u us) a)))

  onward-next : (b o : Corner) (vs : List Corner) (i : ℕ) → i < length vs
      → onward gives b (take (i + 1) vs) ≡ onward gives b (take i vs) ++ gives (last_of b (take i vs)) (get_or vs i o)
  onward-next b o vs i h = rw (add-one i, take-suc vs i o h) (onward-one b (take i vs) (get_or vs i o))

  -- all of them
  pub onward-all : (b : Corner) (vs : List Corner) (i : ℕ) → i ≤ length vs → length vs ≤ i → onward gives b (take i vs) ≡ onward gives b vs
  onward-all b vs i h k =
      let e : i ≡ length vs = omega arith in
      rw (e, take-length vs)

last-one : (b : Corner) (us : List Corner) (a : Corner) → last_of b (us ++ a ∷ []) ≡ a
last-one b [] a = refl
last-one b (u ∷ us) a = last-one u us a

pub last-next : (b o : Corner) (vs : List Corner) (i : ℕ) → i < length vs → get_or vs i o ≡ last_of b (take (i + 1) vs)
last-next b o vs i h = rw (add-one i, take-suc vs i o h) (sym (last-one b (take i vs) (get_or vs i o)))

-- what a turn gives comes after what the vertices before gave
pub turn-next : (axis : Axis) (offset : Float) (to : Corner → Corner → Float → Float → List Corner) (b o : Corner) (vs : List Corner) (i : ℕ) → i < length vs
    → (v : Corner) (db da : Float) → v ≡ last_of b (take i vs) → db ≡ distance axis offset v → da ≡ distance axis offset (get_or vs i o)
    → let gives : Corner → Corner → List Corner = λ u w. to u w (distance axis offset u) (distance axis offset w) in
    onward gives b (take i vs) ++ to v (get_or vs i o) db da ≡ onward gives b (take (i + 1) vs)
turn-next axis offset to b o vs i h v db da at_v at_db at_da =
    rw (onward-next (λ u w. to u w (distance axis offset u) (distance axis offset w)) b o vs i h, ← at_v, ← at_db, ← at_da)

-- ---- the verdict, by how many vertices there are
module _ (axis : Axis) (offset : Float) (vs : List Corner) where
  abbrev first : List Corner
  first = first_of axis offset vs

  abbrev second : List Corner
  second = second_of axis offset vs

  pub verdict-many : 7 < length vs → Err (record {}) ≡ verdict_of (slice_cut axis offset vs)
  unfolding slice_cut
  verdict-many h = rw (lt-leb (length vs) 7 h)

  module _ (few : length vs ≤ 7) where
    pub verdict-first : 7 < length first → Err (record {}) ≡ verdict_of (slice_cut axis offset vs)
    unfolding slice_cut cut_of
    verdict-first h = rw (le-leb (length vs) 7 few, lt-leb (length first) 7 h)

    pub verdict-second : length first ≤ 7 → 7 < length second → Err (record {}) ≡ verdict_of (slice_cut axis offset vs)
    unfolding slice_cut cut_of
    verdict-second k h = rw (le-leb (length vs) 7 few, le-leb (length first) 7 k, lt-leb (length second) 7 h)

    pub verdict-fine : length first ≤ 7 → length second ≤ 7 → Ok tt ≡ verdict_of (slice_cut axis offset vs)
    unfolding slice_cut cut_of
    verdict-fine k h = rw (le-leb (length vs) 7 few, le-leb (length first) 7 k, le-leb (length second) 7 h)

  -- what a verdict tells
  pub record Fits : Type 0 where
    pub polygon_fits : fitting vs ≡ true
    pub first_fits : fitting first ≡ true
    pub second_fits : fitting second ≡ true

  pub verdict-ok : {u : Unit {0}} → Ok u ≡ verdict_of (slice_cut axis offset vs) → Fits
  unfolding slice_cut cut_of
  verdict-ok {u} h = go (fitting vs) (fitting first) (fitting second) h refl refl refl
    where
      fail : ◌≡◌ {A = Result (Unit {0}) EighthVertex} (Ok u) (Err (record {})) → Fits
      fail e = let z : ◌≡◌ {A = ℕ} 0 1 = cc in absurd (omega arith)

      go : (a b c : Bool) → Ok u ≡ verdict_of (cond a (cond (b && c) (parts first second) eighth) eighth) → fitting vs ≡ a → fitting first ≡ b → fitting second ≡ c → Fits
      go true true true h p q r = record { polygon_fits = p; first_fits = q; second_fits = r }
      go true true false h p q r = fail h
      go true false c h p q r = fail h
      go false b c h p q r = fail h

  pub cut-fits : Fits → slice_cut axis offset vs ≡ parts first second
  unfolding slice_cut cut_of
  cut-fits f = rw (f.polygon_fits, f.first_fits, f.second_fits)

  pub on-ok : (r : Result (Unit {0}) EighthVertex) → r ≡ verdict_of (slice_cut axis offset vs) → (P : Type 0) → (Fits → P) → OnOk r P
  on-ok (Ok u) h P k = k (verdict-ok h)
  on-ok (Err e) h P k = tt

pub refused-is : {e : EighthVertex} (cut : Cut) → Err e ≡ verdict_of cut → cut ≡ eighth
refused-is {e} (parts first second) h =
    let k : ◌≡◌ {A = Result (Unit {0}) EighthVertex} (Err e) (Ok tt) = h in
    let z : ◌≡◌ {A = ℕ} 0 1 = cc in
    absurd (omega arith)
refused-is eighth h = refl
