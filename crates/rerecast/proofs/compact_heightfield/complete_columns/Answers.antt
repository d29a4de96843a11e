-- What `fill_columns` stored is there to be read, so `link_columns` may link it; the words over what was stored complete the result.
use Prim.Native.Nat.{ℕ, ◌≤◌}
use mathlib.Core.Path.{◌≡◌, refl, ◌∙◌}
use mathlib.Core.List.{List, flatten}
use lib.ListN.{length}
use native.Mathlib.Omega.{arith}
use Rattle.field.specs.Slots.{Slots}
use Rattle.field.specs.Field.{Field, Holds}
use Rattle.field.specs.Open.{columns_of, cells}
use Rattle.field.specs.Links.{passes}
use Rattle.field.specs.Compact.{Result, Room}
use Rattle.field.specs.Rowing.{Filled}
use Rattle.field.proofs.Opening.{columns-wide, cells_wide, column-ascends}
use Rattle.field.proofs.ReadingBack.{shown_of}
use Rattle.field.proofs.Sides.{completed}
use Rattle.rerecast.specs.Compacting.{ShownIn}
use Rattle.rerecast.proofs.compact_heightfield.complete_columns.Goals as goal

-- what was filled is there to be read
module _ {n : ℕ} {heads : List ℕ} {s : Slots} {f : Field} {t t' : Result} (H : Holds heads s f) (F : Filled (columns_of f) t t') where
  there : (length heads ≡ n) × (length heads ≤ length t.indices) × (length heads ≤ length t.counts) → n ≤ 1048576 → Room (length (flatten (cells (columns_of f)))) t.rows → ShownIn (cells (columns_of f)) t'
  there p few r =
      let e = cells_wide H in
      shown_of F r (omega (arith, e, p.1)) (omega (arith, e, p.2)) (omega (arith, e, p.0, few)) (λ i l. column-ascends H i (omega (arith, columns-wide H)))

pub link_columns-requires : goal.link_columns-requires
link_columns-requires c =
    let p = c.requires.cells_there in
    let g = c.requires.held in
    (cells (columns_of g.0), cells_wide g.1 ∙ p.0, there g.1 (c.fill_columns.ensures.filled g.0 g.1) p c.args.size.few g.3)

pub returns-clause-completed : goal.returns-clause-completed
returns-clause-completed c f H r =
    let s = c.args in
    let p = c.requires.cells_there in
    let F = c.fill_columns.ensures.filled f H in
    let k = c.link_columns.ensures.linked (cells (columns_of f)) (cells_wide H ∙ p.0) (there H F p s.size.few r) in
    (k.1, k.0 ∙ completed (passes s.tall s.climb) s.size.width s.size.height (columns_of f) F refl)
