-- `populate_from_trimesh` meets its contract: the tests of a mesh, and past them its triangles and the filters.
use Rattle.std.proofs.Common.{rules}
use Rattle.std.proofs.lemmas.Result.{err_from_is_err_and}
use Rattle.clip.specs.Work.{frame_of}
use Rattle.grid.specs.Grid.{width, height}
use Rattle.field.specs.Meshes.{mesh}
use Rattle.field.specs.Populate.{populated}
use Rattle.rerecast.specs.Answer.{refusal_says}
use Rattle.rerecast.proofs.MeshAdmitted.{mesh-relies, mesh-left}
use Rattle.rerecast.proofs.Populated.{mesh-stopped, mesh-held, mesh-populated}
use Rattle.rerecast.proofs.heightfield.populate_from_trimesh.Goals as goal

pub returns-in_err-size : goal.returns-in_err-size
returns-in_err-size c =
    let a = c.args in
    let p = err_from_is_err_and c.from_residual.result c.from_residual.ensures.1 in
    rw (p.1, p.2)
    (c.in_err-size.ensures (populated (frame_of a.grid (width a.grid) (height a.grid)) (mesh a.vertices.now a.indices.now a.triangle_areas.now) a.walkable_height a.walkable_climb))

pub take_mesh-requires : goal.take_mesh-requires
take_mesh-requires c =
    let both = mesh-relies _ _ _ _ _ _ c.in_ok-size.ensures in
    record { sides = both.0; held = both.1 }

pub returns-in_err-take_mesh : goal.returns-in_err-take_mesh
returns-in_err-take_mesh c =
    let a = c.args in
    let m = mesh a.vertices.now a.indices.now a.triangle_areas.now in
    let p = err_from_is_err_and c.from_residual-in_err-take_mesh.result c.from_residual-in_err-take_mesh.ensures.1 in
    let r = c.in_err-take_mesh.field-0.0 in
    rw (p.1, p.2)
    (mesh-left _ _ _ _ _ _ c.in_ok-size.ensures (λ w h. populated (frame_of a.grid w h) m a.walkable_height a.walkable_climb) (refusal_says r) _ c.take_mesh.new.slots (search rules)
    (λ marks. mesh-stopped a.grid _ _ m a.walkable_height a.walkable_climb _ r _ (c.in_err-take_mesh.ensures.builds marks)))

pub filter_all-requires-clause-held : goal.filter_all-requires-clause-held
filter_all-requires-clause-held c =
    mesh-held _ _ _ _ _ _ c.in_ok-size.ensures c.args.walkable_climb _ c.take_mesh.new.slots (search rules) c.in_ok-take_mesh.ensures.builds c.columns.ensures

pub returns : goal.returns
returns c =
    let a = c.args in
    mesh-populated _ _ _ _ _ _ c.in_ok-size.ensures a.walkable_climb _ c.take_mesh.new.slots (search rules) c.in_ok-take_mesh.ensures.builds c.columns.ensures
    a.walkable_height c.filter_all.new.areas c.filter_all.ensures
