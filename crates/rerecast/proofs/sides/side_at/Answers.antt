-- `side_at` meets its contract: a column's number is not the one that stands for none.
use native.Mathlib.Omega.{arith}
use borrow.Author.Tests.{ne_eqb}
use mathlib.Core.Path.{refl}
use mathlib.Core.Logic.{◌≢◌}
use Rattle.field.specs.Slots.{none}
use Rattle.rerecast.proofs.sides.side_at.Goals as goal

pub returns-in-Some : goal.returns-in-Some
returns-in-Some c =
    let few = rw c.in-Some.is at c.requires in
    let some : c.in-Some.k ≢ none = omega (arith, few.0) in
    rw (c.in-Some.is, ne_eqb _ _ some) refl
