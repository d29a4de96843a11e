-- `mesh_admission::admit_mesh` meets its contract: the tests of every call, then those of the mesh's numbers.
use Rattle.std.proofs.Common.{◌≡◌, cond, length, Ok, Err, arith}
use Rattle.std.proofs.lemmas.Result.{err_from_is_err_and}
use Rattle.rerecast.proofs.MeshAdmitted.{not-admitted, numbers-tested}
use Rattle.rerecast.proofs.mesh_admission.admit_mesh.Goals as goal

pub returns-in_err-size : goal.returns-in_err-size
returns-in_err-size c =
    let shortest : c.if-mesh_shaped.shortest ≡ cond c.mesh_shaped.result (length c.args.columns.now.heads.now) 0 = grind arith in
    let p = err_from_is_err_and c.from_residual.result c.from_residual.ensures.1 in
    rw (p.1, p.2) (not-admitted _ _ _ _ c.mesh_shaped.result c.mesh_shaped.ensures _ shortest _ c.in_err-size.ensures)

pub returns-in_err-admit_numbers : goal.returns-in_err-admit_numbers
returns-in_err-admit_numbers c =
    let shortest : c.if-mesh_shaped.shortest ≡ cond c.mesh_shaped.result (length c.args.columns.now.heads.now) 0 = grind arith in
    let p = err_from_is_err_and c.from_residual-in_err-admit_numbers.result c.from_residual-in_err-admit_numbers.ensures.1 in
    rw (p.1, p.2)
    (numbers-tested _ _ _ _ c.mesh_shaped.result c.mesh_shaped.ensures _ shortest (Err _) c.in_ok-size.size c.in_ok-size.ensures c.in_err-admit_numbers.ensures)

pub returns : goal.returns
returns c =
    let shortest : c.if-mesh_shaped.shortest ≡ cond c.mesh_shaped.result (length c.args.columns.now.heads.now) 0 = grind arith in
    numbers-tested _ _ _ _ c.mesh_shaped.result c.mesh_shaped.ensures _ shortest (Ok tt) c.in_ok-size.size c.in_ok-size.ensures c.in_ok-admit_numbers.ensures
