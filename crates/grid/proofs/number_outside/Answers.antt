-- The corners' numbers stand before the cell's two, as in `numbers`, and in their order.
use Rattle.std.proofs.Common.{◌≡◌, List, [], ◌∷◌, not, rules}
use Rattle.std.specs.Prelude.{find, Float}
use Rattle.std.specs.Option.{option_or}
use Rattle.grid.specs.Grid.{coordinate_ok, cell_ok}
use Rattle.grid.proofs.FirstOutside.{finds, both_find}
use Rattle.grid.proofs.number_outside.Goals as goal

pub returns : goal.returns
returns c =
    let g = c.args.g in
    let corners : List Float = g.min.x ∷ g.min.y ∷ g.min.z ∷ g.max.x ∷ g.max.y ∷ g.max.z ∷ [] in
    let sizes : List Float = g.cell_size ∷ g.cell_height ∷ [] in
    let is : c.or_else.result ≡ option_or c.coordinate_outside.result (find (λ x. not (cell_ok x)) sizes) = search rules in
    rw (is, c.coordinate_outside.ensures) (both_find _ _ _ _ (finds coordinate_ok corners) (finds cell_ok sizes))
