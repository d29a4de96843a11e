-- `rasterize::lv_rasterize_triangle` meets its contract: the library places a mesh of one triangle, and its reply is told.
use Rattle.rerecast.specs.Answer.{said_of}
use Rattle.c_api.proofs.rasterize.lv_rasterize_triangle.Goals as goal

pub returns : goal.returns
returns c =
    let called = c.rasterize_triangles-answer in
    (said_of called.result, rw c.grid_of.ensures at called.ensures, c.tell.ensures)
