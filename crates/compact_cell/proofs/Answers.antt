-- Two different answers never say the same, so what a call says fixes its answer. Then what a caller may conclude:
-- which answer a count gets, and what `raise_at` leaves and says where the place is a cell.
use Rattle.std.proofs.Common.{◌≡◌, ℕ, ◌≤◌, ◌<◌, true, List, length, get_or, set, Result, Ok, Err, refl, sym, ap, arith, lt-ltb, le-ltb}
use Rattle.replies.specs.Said.{Said}
use Rattle.compact_cell.specs.declared.Full.{Full}
use Rattle.compact_cell.specs.declared.RaiseError.{RaiseError}
use Rattle.compact_cell.specs.declared.RaiseError.TheVariants as error
use Rattle.compact_cell.specs.Cell.{count_after, is_cell, raised_counts}
use Rattle.compact_cell.specs.Replies.{said_of, said_of_error, said_of_at, raise_says, raise_at_says}

abbrev number : Said → ℕ
number o = o.number

-- what is said has one answer
pub raised-one : (a b : Result Unit Full) → said_of a ≡ said_of b → a ≡ b
raised-one (Ok x) (Ok y) e = refl
raised-one (Ok x) (Err f) e = let n = ap number e in absurd (omega arith)
raised-one (Err f) (Ok y) e = let n = ap number e in absurd (omega arith)
raised-one (Err f) (Err g) e = refl

error-one : (a b : RaiseError) → said_of_error a ≡ said_of_error b → a ≡ b
error-one error.NoCell error.NoCell e = refl
error-one error.NoCell error.Full e = let n = ap number e in absurd (omega arith)
error-one error.Full error.NoCell e = let n = ap number e in absurd (omega arith)
error-one error.Full error.Full e = refl

-- no refusal is an acceptance
refused : (a : RaiseError) → number (said_of_error a) ≡ 0 → ⊥
refused error.NoCell e = omega arith
refused error.Full e = omega arith

pub raised-at-one : (a b : Result Unit RaiseError) → said_of_at a ≡ said_of_at b → a ≡ b
raised-at-one (Ok x) (Ok y) e = refl
raised-at-one (Ok x) (Err b) e = absurd (refused b (ap number (sym e)))
raised-at-one (Err a) (Ok y) e = absurd (refused a (ap number e))
raised-at-one (Err a) (Err b) e = ap Err (error-one a b e)

-- below 255 there is room, and at 255 there is none
pub room : (n : ℕ) → n < 255 → raise_says n ≡ said_of {T = Unit} (Ok tt)
room n h = simp (lt-ltb n 255 h)

pub full : (n : ℕ) → 255 ≤ n → raise_says n ≡ said_of {T = Unit} (Err record {})
full n h = simp (le-ltb n 255 h)

-- a place in both slices is a cell: its count is raised, and it gives the answer
module _ (indices counts : List ℕ) (p : ℕ) (hi : p < length indices) (hc : p < length counts) where
  pub is-cell : is_cell indices counts p ≡ true
  is-cell = simp (lt-ltb p (length indices) hi, lt-ltb p (length counts) hc)

  pub cell-counts : raised_counts indices counts p ≡ set counts p (count_after (get_or counts p 0))
  cell-counts = simp is-cell

  pub cell-says : raise_at_says indices counts p ≡ raise_says (get_or counts p 0)
  cell-says = simp is-cell
