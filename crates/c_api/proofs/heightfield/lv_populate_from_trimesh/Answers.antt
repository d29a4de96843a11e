-- `heightfield::lv_populate_from_trimesh` meets its contract: the library places the mesh and filters, and its reply is told.
use Rattle.rerecast.specs.Answer.{said_of}
use Rattle.c_api.proofs.heightfield.lv_populate_from_trimesh.Goals as goal

pub returns : goal.returns
returns c =
    let called = c.populate_from_trimesh-answer in
    (said_of called.result, rw c.grid_of.ensures at called.ensures, c.tell.ensures)
