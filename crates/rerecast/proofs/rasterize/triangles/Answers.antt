-- `rasterize::triangles` meets its contract.
use native.Mathlib.Omega.{arith}
use Rattle.std.proofs.Common.{rules}
use Rattle.field.proofs.Meshing.{mesh-on, mesh-halts-says, mesh-halts-holds, mesh-ends-says, mesh-ends-holds}
use Rattle.rerecast.proofs.rasterize.triangles.Goals as goal

pub triangle_at-requires-clause-held : goal.triangle_at-requires-clause-held
triangle_at-requires-clause-held c =
    let held = c.requires.held in
    let now = c.loop-t.invariant.remains held.0 held.1.0 held.1.1 in
    (held.0, (now.field, now.holds))

pub returns-in-Err-clause-worked : goal.returns-in-Err-clause-worked
returns-in-Err-clause-worked c others f H =
    let a = c.args in
    let now = c.loop-t.invariant.remains others f H in
    let R = c.in-Err.ensures.worked others now.field now.holds in
    record {
      says = mesh-halts-says a.frame.width a.threshold _ now (omega arith) R;
      holds = mesh-halts-holds a.frame.width a.threshold _ now (omega arith) R;
    }

pub loop-t-preserved : goal.loop-t-preserved
loop-t-preserved c = record {
  remains = λ others f H.
      let a = c.args in
      let now = c.loop-t.invariant.remains others f H in
      mesh-on a.frame.width a.threshold _ now (omega arith) (c.in_default.ensures.worked others now.field now.holds);
  same = search rules;
}

pub returns-clause-worked : goal.returns-clause-worked
returns-clause-worked c others f H =
    let a = c.args in
    let now = c.loop-t.invariant.remains others f H in
    record {
      says = mesh-ends-says a.frame.width a.threshold _ now (omega arith);
      holds = mesh-ends-holds a.frame.width a.threshold _ now (omega arith);
    }
