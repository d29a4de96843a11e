-- `mesh_admission::admit_numbers` meets its contract: the number that is found is the one that the rules give.
use Rattle.std.proofs.Common.{◌≡◌, inl, inr, sym, ap, ◌∙◌, arith}
use Rattle.replies.specs.Said.{Said, just}
use Rattle.grid.specs.Grid.{coordinate_ok}
use Rattle.grid.proofs.FirstOutside.{finds, found, none_found}
use Rattle.field.specs.Meshes.{vertices_say}
use Rattle.rerecast.specs.Lent.{mesh_of}
use Rattle.rerecast.proofs.mesh_admission.admit_numbers.Goals as goal

pub returns-in-Some : goal.returns-in-Some
returns-in-Some c =
    let e = found _ (finds coordinate_ok c.args.mesh.now.vertices.now) (sym c.first_outside.ensures ∙ c.in-Some.is) (just 0) in
    inr (c.if-not-all_named.ensures, inl (λ (z : (vertices_say (mesh_of c.args.mesh.now)).number ≡ 0). omega (arith, rw e at z), sym e))

pub returns-in-None : goal.returns-in-None
returns-in-None c =
    let e = none_found _ (finds coordinate_ok c.args.mesh.now.vertices.now) (sym c.first_outside.ensures ∙ c.in-None.is) (just 0) in
    (c.if-not-all_named.ensures, ap (λ (s : Said). s.number) e)
