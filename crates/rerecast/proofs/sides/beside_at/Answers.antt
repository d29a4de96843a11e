-- `beside_at` meets its contract.
use Rattle.grid.specs.Directions.{number_of}
use Rattle.rerecast.proofs.Around.{beside-found}
use Rattle.rerecast.proofs.sides.beside_at.Goals as goal

pub returns : goal.returns
returns c =
    let a = c.args in
    beside-found a.size.width a.size.height (number_of a.direction) a.x a.z c.in_ok-x.x c.in_ok-x.z c.column.result c.requires c.in_ok-x.ensures c.column.ensures
