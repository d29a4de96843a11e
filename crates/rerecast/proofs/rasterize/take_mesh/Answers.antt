-- `rasterize::take_mesh` meets its contract: the triangles work on the heads of the grid's columns, and the heads past them stay.
use mathlib.Core.List.{[], append-nil}
use lib.ListN.{take}
use Rattle.clip.specs.Work.{frame_of}
use Rattle.field.specs.Meshes.{rasterized}
use Rattle.field.proofs.Taking.{first-heads, mesh-ready, mesh-built}
use Rattle.rerecast.specs.Answer.{said_of}
use Rattle.rerecast.specs.Lent.{slots_of, mesh_of}
use Rattle.rerecast.proofs.Rasterizing.{framed}
use Rattle.rerecast.proofs.rasterize.take_mesh.Goals as goal

pub triangles-requires : goal.triangles-requires
triangles-requires c =
    let a = c.args in
    let s = c.requires.sides in
    let n = c.columns.ensures in
    record {
      ready = (framed a.grid _ _ c.frame_of-frame.ensures s.0 (first-heads _ _ a.heads.now _ s.1 c.requires.held n), s.2, s.3);
      held = mesh-ready _ _ a.heads.now _ s.1 c.requires.held n;
    }

pub returns-clause-builds : goal.returns-clause-builds
returns-clause-builds c marks =
    let a = c.args in
    let n = c.columns in
    let l = c.triangles.new in
    mesh-built _ _ a.heads.now _ c.requires.sides.1 c.requires.held n.ensures
    (rasterized (frame_of a.grid a.size.width a.size.height) (mesh_of a.mesh.now) a.threshold) marks (said_of c.triangles.result) l.heads (slots_of l.slots) c.triangles.auto.heads
    (λ k H.
    let R = c.triangles.ensures.worked [] k (rw (append-nil (take n.result a.heads.now)) H) in
    (rw c.frame_of-frame.ensures at R.says, rw (c.frame_of-frame.ensures, append-nil l.heads) at R.holds))
