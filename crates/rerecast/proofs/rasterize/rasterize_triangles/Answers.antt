-- `rasterize_triangles` meets its contract: the tests of a mesh, and past them its triangles.
use Rattle.std.proofs.Common.{rules}
use Rattle.std.proofs.lemmas.Result.{err_from_is_err_and}
use Rattle.clip.specs.Work.{frame_of}
use Rattle.grid.specs.Grid.{width, height}
use Rattle.field.specs.Meshes.{mesh, rasterized}
use Rattle.rerecast.specs.Answer.{said_of}
use Rattle.rerecast.proofs.MeshAdmitted.{mesh-relies, mesh-left}
use Rattle.rerecast.proofs.rasterize.rasterize_triangles.Goals as goal

pub returns-in_err-size : goal.returns-in_err-size
returns-in_err-size c =
    let a = c.args in
    let p = err_from_is_err_and c.from_residual.result c.from_residual.ensures.1 in
    rw (p.1, p.2) (c.in_err-size.ensures (rasterized (frame_of a.grid (width a.grid) (height a.grid)) (mesh a.vertices.now a.indices.now a.triangle_areas.now) a.threshold))

pub take_mesh-requires : goal.take_mesh-requires
take_mesh-requires c =
    let both = mesh-relies _ _ _ _ _ _ c.in_ok-size.ensures in
    record { sides = both.0; held = both.1 }

pub returns : goal.returns
returns c =
    let a = c.args in
    mesh-left _ _ _ _ _ _ c.in_ok-size.ensures (λ w h. rasterized (frame_of a.grid w h) (mesh a.vertices.now a.indices.now a.triangle_areas.now) a.threshold)
    (said_of c.take_mesh.result) _ c.take_mesh.new.slots (search rules) c.take_mesh.ensures.builds
