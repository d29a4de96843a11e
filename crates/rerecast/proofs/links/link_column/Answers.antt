-- `link_column` meets its contract: an empty column has no open space to link, and any other is linked space by space.
use mathlib.Core.Path.{◌≡◌, refl, sym, ◌∙◌}
use mathlib.Core.List.{[]}
use native.Mathlib.Omega.{arith}
use lib.ListN.{get_or}
use Rattle.field.proofs.Basics.{no_length}
use Rattle.rerecast.proofs.links.link_column.Goals as goal

pub returns-then-compact-column-eq0-clause-linked : goal.returns-then-compact-column-eq0-clause-linked
returns-then-compact-column-eq0-clause-linked c cs e S =
    let none_here : get_or cs c.args.column [] ≡ [] = no_length _ (sym (S.cell c.args.column (omega (arith, e, c.requires.on_grid))).count ∙ c.if-compact-column-eq0.true) in
    rw none_here (refl, refl, S)
