-- `bind` meets its contract: four links make the word, and the greatest of four missed layers is the answer's. The cursors move on, each in its cell.
use Rattle.rerecast.proofs.Compacting.{bound}
use Rattle.rerecast.proofs.links.bind.Goals as goal

pub returns : goal.returns
returns c =
    let s = c.args in
    bound s.q.tall s.q.climb s.q.y s.q.height s.compact.now.ys.now s.compact.now.words.now c.link_to-a.result c.link_to-b.result c.link_to-c.result
    c.link_to-d.result s.sides.now c.requires.within.0 c.link_to-a.ensures c.link_to-b.ensures c.link_to-c.ensures c.link_to-d.ensures c.with_links.ensures
    (rw (c.max-2.ensures, c.max.ensures) at c.max-3.ensures)
