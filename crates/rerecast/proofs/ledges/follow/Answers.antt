-- `follow` meets its contract.
use Rattle.rerecast.proofs.ledges.follow.Goals as goal

pub returns-clause-keeps_cursors : goal.returns-clause-keeps_cursors
returns-clause-keeps_cursors c =
    λ areas at w i k. (
      c.skip.ensures.keeps_cursor areas _ k.0,
      (c.skip-2.ensures.keeps_cursor areas _ k.1.0, (c.skip-3.ensures.keeps_cursor areas _ k.1.1.0, (c.skip-4.ensures.keeps_cursor areas _ k.1.1.1.0, tt))),
    )
