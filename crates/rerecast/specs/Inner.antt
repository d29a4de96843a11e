-- What the inner functions' answers mean. No public contract cites this file.
use Rattle.std.specs.Prelude.{◌≡◌, true, false, List, ℕ, ◌≤◌, length, replicate, Option, Some, None, Result, Ok, Err}
use Rattle.replies.specs.Said.{just, Asks}
use Rattle.grid.specs.declared.Grid.{Grid}
use Rattle.grid.specs.declared.sizes.Size.{Size}
use Rattle.grid.specs.Grid.{width, height, columns, grid_says}
use Rattle.field.specs.Field.{Inserted}
use Rattle.field.specs.Store.{Store, store, Fitting, Sound, cleared, left, Outcome, Admits}
use Rattle.field.specs.Marks.{Marked, Broken, MarkedAll, BrokenAll}
use Rattle.rerecast.specs.Answer.{refusal_says}
use Rattle.rerecast.specs.declared.Refusal.{Refusal}
use Rattle.rerecast.specs.declared.insertion.Landed.{Landed}

-- an insertion that went as the rule says
abbrev pub Lands : Option Landed → Inserted → Type 0
Lands (Some l) o = (o.accepted ≡ true) × ((l.slot ≡ o.slot) × (l.merged ≡ o.merged))
Lands None o = o.accepted ≡ false

-- a chain whose slots were marked, or that is none to be marked
abbrev pub Marks : Option ℕ → List ℕ → List ℕ → ℕ → (List ℕ → Type 0) → List ℕ → Type 0
Marks (Some n) nexts marks h Fair marks' = Marked nexts marks h Fair marks' n
Marks None nexts marks h Fair marks' = Broken nexts marks h Fair

-- the same of all columns
abbrev pub MarksAll : Option ℕ → List ℕ → List ℕ → List ℕ → List ℕ → List ℕ → Type 0
MarksAll (Some n) heads floors ceilings nexts marks' = MarkedAll heads floors ceilings nexts marks' n
MarksAll None heads floors ceilings nexts marks' = BrokenAll heads floors ceilings nexts

-- ---- the tests in front of a call

-- the slices fit n columns, and so does the shortest of the call's further ones
abbrev pub Fitted : ℕ → ℕ → Store → Type 0
Fitted n shortest s = Fitting n s × (n ≤ shortest)

-- all are passed, and the marks are 0
pub record Passed (n shortest : ℕ) (s : Store) (marks' : List ℕ) : Type 0 where
  pub fits : Fitted n shortest s
  pub sound : Sound n s
  pub zeros : marks' ≡ replicate (length s.slots.nexts) 0

-- nothing comes after a refusal
abbrev pub Nothing : Outcome → Type 0
Nothing o = ⊥

abbrev pub AdmitsStore : Result Unit Refusal → ℕ → ℕ → Store → List ℕ → Type 0
AdmitsStore (Ok done) n shortest s marks' = Passed n shortest s marks'
AdmitsStore (Err r) n shortest s marks' =
    Asks (Fitted n shortest s) (left (just 4) s) (Asks (Sound n s) (left (just 14) (cleared s)) Nothing) (left (refusal_says r) (store s.heads s.slots marks'))

abbrev pub AdmitsCall : Result Size Refusal → Grid → ℕ → Store → List ℕ → Type 0
AdmitsCall (Ok size) g shortest s marks' =
    ((grid_says g).number ≡ 0) × (((size.width ≡ width g) × (size.height ≡ height g)) × Passed (columns g) shortest s marks')
AdmitsCall (Err r) g shortest s marks' =
    Admits left g (Fitted (columns g) shortest s) s Nothing (left (refusal_says r) (store s.heads s.slots marks'))
