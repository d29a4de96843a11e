-- A new span's walk up a column: its parts, and the column that it leaves.
use mathlib.Core.Path.{◌≡◌, refl, ap}
use mathlib.Core.Logic.{inl, inr}
use mathlib.Core.Bool.{cond}
use mathlib.Core.List.{List, [], ◌∷◌, ◌++◌, map, append-nil}
use Prim.Native.Nat.{ℕ, suc, ◌+◌, ◌<◌, ◌≤◌, min, max}
use native.Mathlib.Omega.{arith}
use native.Mathlib.Decide.{dec_lt}
use borrow.Author.Tests.{ltb-true, ltb-false, le-ltb}
use lib.Dec.{ltb}
use lib.ListN.{get_or}
use Rattle.field.specs.declared.Span.{Span}
use Rattle.field.specs.Spans.{Range, range, Ascends, joined, Walk, passes, merges, walk_up, insert_column}
use Rattle.field.specs.Slots.{Contents, span_at, range_at, times}
use Rattle.field.specs.Stretches.{In}
use Rattle.field.specs.Inner.{below, from, Over}
use Rattle.field.proofs.Basics.{by-test, by-dec}
use Rattle.field.proofs.Counting.{times-first, times-here}

-- ---- of columns that list anything

-- the spans of the column that a walk leaves are those that the rule gives for its spans
pub walk-column : {E : Type 0} (at : E → Span) (th : ℕ) (new : Span) (es : List E) → insert_column th new (map at es) ≡ map at (walk_up at th new es).passed ++ (walk_up at th new es).span ∷ map at (walk_up at th new es).above
walk-column at th new [] = refl
walk-column at th new (e ∷ es) =
    by-test (ltb (at e).ceiling new.floor) (λ t. rw t (ap (λ (l : List Span). at e ∷ l) (walk-column at th new es)))
    (λ t.
    by-test (ltb new.ceiling (at e).floor) (λ u. rw (t, u))
    (λ u. rw (t, u) (walk-column at th (joined th new (at e)) es)))

-- ---- of columns of slots

-- two readings of slots that agree on the column's give the same walk
pub walk-agree : (at at' : ℕ → Span) (th : ℕ) (new : Span) (ss : List ℕ) → ((x : ℕ) → 0 < times x ss → at' x ≡ at x) → walk_up at' th new ss ≡ walk_up at th new ss
walk-agree at at' th new [] agree = refl
walk-agree at at' th new (s ∷ ss) agree =
    rw (agree s (times-first s ss), walk-agree at at' th new ss (λ x p. agree x (omega arith)), walk-agree at at' th (joined th new (at s)) ss (λ x p. agree x (omega arith)))

-- passed, merged and above together are the column
pub walk-times : (at : ℕ → Span) (th : ℕ) (new : Span) (ss : List ℕ) (x : ℕ) → times x (walk_up at th new ss).passed + times x (walk_up at th new ss).merged + times x (walk_up at th new ss).above ≡ times x ss
walk-times at th new [] x = refl
walk-times at th new (s ∷ ss) x =
    by-test (ltb (at s).ceiling new.floor) (λ t. rw t (omega (arith, walk-times at th new ss x)))
    (λ t.
    by-test (ltb new.ceiling (at s).floor) (λ u. rw (t, u) (omega arith))
    (λ u. rw (t, u) (omega (arith, walk-times at th (joined th new (at s)) ss x))))

-- where no ceiling is below the new floor nothing is passed
pub record Reached (ss : List ℕ) (w : Walk ℕ) : Type 0 where
  pub passed : w.passed ≡ []
  pub split : w.merged ++ w.above ≡ ss

reached-merge : (s : ℕ) (ss : List ℕ) (w : Walk ℕ) → Reached ss w → Reached (s ∷ ss) (merges s w)
reached-merge s ss w h = record { passed = h.passed; split = ap (λ (l : List ℕ). s ∷ l) h.split }

pub walk-reached : (k : Contents) (th : ℕ) (new : Span) (ss : List ℕ) → Over k.ceilings new.floor ss → Reached ss (walk_up (span_at k) th new ss)
walk-reached k th new [] over = record { passed = refl; split = refl }
walk-reached k th new (s ∷ ss) over =
    let t = le-ltb (get_or k.ceilings s 0) new.floor (over s (times-first s ss)) in
    by-test (ltb new.ceiling (get_or k.floors s 0)) (λ u. rw (t, u) (record { passed = refl; split = refl }))
    (λ u.
    rw (t, u)
    (reached-merge s ss (walk_up (span_at k) th (joined th new (span_at k s)) ss) (walk-reached k th (joined th new (span_at k s)) ss (λ x p. omega (arith, over x (omega arith))))))

-- the walk goes on from the first span that is not below the new floor
abbrev pub lifted : List ℕ → Walk ℕ → Walk ℕ
lifted low w = record { passed = low ++ w.passed; merged = w.merged; above = w.above; span = w.span }

pub walk_from_lem : (k : Contents) (th : ℕ) (new : Span) (ss : List ℕ) → walk_up (span_at k) th new ss ≡ lifted (below k.ceilings new.floor ss) (walk_up (span_at k) th new (from k.ceilings new.floor ss))
walk_from_lem k th new [] = refl
walk_from_lem k th new (s ∷ ss) =
    by-test (ltb (get_or k.ceilings s 0) new.floor) (λ t. rw t (ap (passes s) (walk_from_lem k th new ss))) (λ t. rw t (rw t))

pub below-from : (ce : List ℕ) (fl : ℕ) (col : List ℕ) → below ce fl col ++ from ce fl col ≡ col
below-from ce fl [] = refl
below-from ce fl (s ∷ ss) =
    by-test (ltb (get_or ce s 0) fl) (λ e. rw e (ap (λ (l : List ℕ). s ∷ l) (below-from ce fl ss))) (λ e. rw e)

-- ---- of columns that ascend

asc-over : (k : Contents) (b : ℕ) (ss : List ℕ) → Ascends b (map (range_at k) ss) → (x : ℕ) → 0 < times x ss → b ≤ get_or k.ceilings x 0
asc-over k b [] r x p = absurd (omega arith)
asc-over k b (s ∷ ss) r x p =
    by-dec (dec_lt 0 (times x ss)) (λ l. omega (arith, r.0, r.1, asc-over k (suc (get_or k.ceilings s 0)) ss r.2 x l))
    (λ n. rw (times-here x s ss p n) (omega (arith, r.0, r.1)))

from-here : (k : Contents) (b floor s : ℕ) (ss : List ℕ) → Ascends b (map (range_at k) (s ∷ ss)) → floor ≤ get_or k.ceilings s 0 → Over k.ceilings floor (s ∷ ss)
from-here k b floor s ss r h x p =
    by-dec (dec_lt 0 (times x ss)) (λ l. omega (arith, asc-over k (suc (get_or k.ceilings s 0)) ss r.2 x l))
    (λ n. rw (times-here x s ss p n) h)

pub from-over : (k : Contents) (b floor : ℕ) (col : List ℕ) → Ascends b (map (range_at k) col) → Over k.ceilings floor (from k.ceilings floor col)
from-over k b floor [] r = λ x p. absurd (omega arith)
from-over k b floor (s ∷ ss) r =
    by-test (ltb (get_or k.ceilings s 0) floor) (λ e. rw e (from-over k (suc (get_or k.ceilings s 0)) floor ss r.2))
    (λ e. rw e (from-here k b floor s ss r (ltb-false (get_or k.ceilings s 0) floor e)))

-- so the walk passes the spans below the new floor, and the others are merged or above
pub record Parted (ce : List ℕ) (fl : ℕ) (ss : List ℕ) (w : Walk ℕ) : Type 0 where
  pub passed : w.passed ≡ below ce fl ss
  pub others : w.merged ++ w.above ≡ from ce fl ss

pub walk-parted : (k : Contents) (b th : ℕ) (new : Span) (ss : List ℕ) → Ascends b (map (range_at k) ss) → Parted k.ceilings new.floor ss (walk_up (span_at k) th new ss)
walk-parted k b th new ss r =
    let h = walk-reached k th new (from k.ceilings new.floor ss) (from-over k b new.floor ss r) in
    rw (walk_from_lem k th new ss) (record { passed = rw h.passed (append-nil (below k.ceilings new.floor ss)); others = h.split })

pub asc-lower : (b c : ℕ) (rs : List Range) → b ≤ c → Ascends c rs → Ascends b rs
asc-lower b c [] h r = r
asc-lower b c (s ∷ rs) h r = (omega (arith, r.0), r.1, r.2)

-- ---- on the heights alone

-- the range widened to cover another
abbrev pub cover : Range → Range → Range
cover w s = record { floor = min w.floor s.floor; ceiling = max w.ceiling s.ceiling }

-- the rule of insertion, without areas
abbrev pub insert_range : Range → List Range → List Range
insert_range w [] = w ∷ []
insert_range w (s ∷ ss) =
    cond (ltb s.ceiling w.floor) (s ∷ insert_range w ss)
    (cond (ltb w.ceiling s.floor) (w ∷ s ∷ ss) (insert_range (cover w s) ss))

-- the threshold and the areas do not count
pub column-ranges : (th : ℕ) (new : Span) (ss : List Span) → map range (insert_column th new ss) ≡ insert_range (range new) (map range ss)
column-ranges th new [] = refl
column-ranges th new (s ∷ ss) =
    by-test (ltb s.ceiling new.floor) (λ t. rw t (ap (λ (l : List Range). range s ∷ l) (column-ranges th new ss)))
    (λ t. by-test (ltb new.ceiling s.floor) (λ u. rw (t, u)) (λ u. rw (t, u) (column-ranges th (joined th new s) ss)))

-- the column that an insertion leaves ascends
pub insert-ascends : (b : ℕ) (w : Range) (ss : List Range) → b ≤ w.floor → w.floor ≤ w.ceiling → Ascends b ss → Ascends b (insert_range w ss)
insert-ascends b w [] low order r = (low, order, tt)
insert-ascends b w (s ∷ ss) low order r =
    by-test (ltb s.ceiling w.floor)
    (λ t. rw t (r.0, r.1, insert-ascends (suc s.ceiling) w ss (ltb-true s.ceiling w.floor t) order r.2))
    (λ t.
    by-test (ltb w.ceiling s.floor) (λ u. rw (t, u) (low, order, (ltb-true w.ceiling s.floor u, r.1, r.2)))
    (λ u.
    rw (t, u)
    (insert-ascends b (cover w s) ss (omega (arith, r.0)) (omega (arith, r.1)) (asc-lower b (suc s.ceiling) ss (omega (arith, r.0, r.1)) r.2))))

-- a range of an ascending column
pub asc-in : (b : ℕ) (L : List Range) (j : Range) → Ascends b L → In j L → (b ≤ j.floor) × (j.floor ≤ j.ceiling)
asc-in b [] j r i = absurd i
asc-in b (s ∷ L) j r (inl e) = rw e (r.0, r.1)
asc-in b (s ∷ L) j r (inr i) = let k = asc-in (suc s.ceiling) L j r.2 i in (omega (arith, r.0, r.1, k.0), k.1)
