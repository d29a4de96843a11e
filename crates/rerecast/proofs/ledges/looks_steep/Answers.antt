-- `looks_steep` meets its contract.
use Rattle.field.proofs.Looking.{not-leb}
use Rattle.rerecast.proofs.ledges.looks_steep.Goals as goal

pub returns-in-Some : goal.returns-in-Some
returns-in-Some c areas at w i k = rw (← c.in-Some.ensures areas at w i k, c.within.ensures) (not-leb _ _)

pub returns-in-None : goal.returns-in-None
returns-in-None c areas at w i k = rw (c.in-None.ensures areas at w i k)
