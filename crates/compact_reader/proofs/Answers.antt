-- Two answers that say the same are the same, and each reader has one outcome.
use Rattle.std.proofs.Common.{◌≡◌, ℕ, ◌<◌, ◌≤◌, true, cond, eqb, List, length, Result, Ok, Err, refl, sym, ap, ◌∙◌}
use Rattle.replies.specs.Said.{Said, just}
use Rattle.replies.proofs.Laws.{One, asks-one}
use Rattle.grid.specs.declared.Grid.{Grid}
use Rattle.grid.specs.declared.GridError.TheVariants.{BadNumber, BoxOrder, GridSize}
use Rattle.grid.specs.Grid.{width, height, columns, grid_says}
use Rattle.grid.specs.Directions.{stays}
use Rattle.grid.proofs.Answers.{read_back, whole_of, rest_of}
use Rattle.compact_cell.specs.declared.CompactCell.{CompactCell}
use Rattle.compact_cell.specs.Cell.{cell_of}
use Rattle.compact_reader.specs.declared.Neighbour.{Neighbour}
use Rattle.compact_reader.specs.declared.Refusal.{Refusal}
use Rattle.compact_reader.specs.declared.Refusal.TheVariants as refusal
use Rattle.compact_reader.specs.Answer.{said_of_refusal, said_of_cell_at, said_of_con_indices}
use Rattle.compact_reader.specs.Reading.{Reads, CellAtSays, StepSays, ConIndicesSays}

-- ---- an answer can be read back from its number and its values

abbrev refusal_of : Said → Refusal
refusal_of s =
    let n = s.number in
    cond (eqb n 4) refusal.Slices
    (cond (eqb n 8) refusal.OffGrid
    (cond (eqb n 13) refusal.NoLink (refusal.Grid (read_back s.values))))

refusal-back : (r : Refusal) → refusal_of (said_of_refusal r) ≡ r
refusal-back (refusal.Grid (BadNumber x)) = refl
refusal-back (refusal.Grid BoxOrder) = refl
refusal-back (refusal.Grid (GridSize w h)) = refl
refusal-back refusal.Slices = refl
refusal-back refusal.OffGrid = refl
refusal-back refusal.NoLink = refl

abbrev cell_read : Said → Result CompactCell Refusal
cell_read s =
    let v = s.values in
    cond (eqb s.number 0) (Ok (cell_of (whole_of v) (whole_of (rest_of v)))) (Err (refusal_of s))

abbrev neighbour_read : Said → Result Neighbour Refusal
neighbour_read s =
    let v = s.values in
    cond (eqb s.number 0) (Ok (record { x = whole_of v; z = whole_of (rest_of v); span = whole_of (rest_of (rest_of v)) })) (Err (refusal_of s))

-- a refusal's number is not 0
refused : {A : Type 0} (r : Refusal) (a b : A) → cond (eqb (said_of_refusal r).number 0) a b ≡ b
refused (refusal.Grid (BadNumber x)) a b = refl
refused (refusal.Grid BoxOrder) a b = refl
refused (refusal.Grid (GridSize w h)) a b = refl
refused refusal.Slices a b = refl
refused refusal.OffGrid a b = refl
refused refusal.NoLink a b = refl

cell-back : (a : Result CompactCell Refusal) → cell_read (said_of_cell_at a) ≡ a
cell-back (Ok c) = refl
cell-back (Err r) = refused r _ _ ∙ ap Err (refusal-back r)

neighbour-back : (a : Result Neighbour Refusal) → neighbour_read (said_of_con_indices a) ≡ a
neighbour-back (Ok n) = refl
neighbour-back (Err r) = refused r _ _ ∙ ap Err (refusal-back r)

pub cell-at-once : (a b : Result CompactCell Refusal) → said_of_cell_at a ≡ said_of_cell_at b → a ≡ b
cell-at-once a b e = sym (cell-back a) ∙ ap cell_read e ∙ cell-back b

pub con-indices-once : (a b : Result Neighbour Refusal) → said_of_con_indices a ≡ said_of_con_indices b → a ≡ b
con-indices-once a b e = sym (neighbour-back a) ∙ ap neighbour_read e ∙ neighbour-back b

-- ---- no second outcome

same-as : (o : Said) → One (λ (p : Said). p ≡ o)
same-as o p q a b = a ∙ sym b

reads-one : (g : Grid) (Fitted : Type 0) (x z : ℕ) (next : Said → Type 0) → One next → One (Reads g Fitted x z next)
reads-one g Fitted x z next one =
    asks-one ((grid_says g).number ≡ 0) (grid_says g) _
    (asks-one Fitted (just 4) _
    (asks-one ((x < width g) × (z < height g)) (just 8) next one))

pub cell-at-one : (g : Grid) (indices counts : List ℕ) (x z : ℕ) → One (CellAtSays g indices counts x z)
cell-at-one g indices counts x z = reads-one g ((columns g ≤ length indices) × (columns g ≤ length counts)) x z _ (same-as _)

step-one : (w h : ℕ) (indices : List ℕ) (x z d con : ℕ) → One (StepSays w h indices x z d con)
step-one w h indices x z d con = asks-one ((d ≤ 3) × (con ≤ 62)) (just 13) _ (asks-one (stays w h d x z ≡ true) (just 8) _ (same-as _))

pub con-indices-one : (g : Grid) (indices : List ℕ) (x z d con : ℕ) → One (ConIndicesSays g indices x z d con)
con-indices-one g indices x z d con = reads-one g (columns g ≤ length indices) x z _ (step-one (width g) (height g) indices x z d con)
