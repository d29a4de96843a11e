-- `rows::put` meets its contract.
use Prim.Native.Nat.{◌+◌, ◌*◌}
use native.Mathlib.Omega.{arith}
use lib.ListN.{length-append}
use Rattle.grid.proofs.Places.{cell_below}
use Rattle.field.proofs.Refusal.{refused-field}
use Rattle.field.proofs.Carrying.{insertion-made, insertion-refused}
use Rattle.rerecast.proofs.rows.put.Goals as goal

pub returns-in-Some-clause-carries : goal.returns-in-Some-clause-carries
returns-in-Some-clause-carries c others f H =
    let a = c.args in
    let l = c.in-Some.ensures.lands others f H in
    insertion-made a.job.frame.width a.job.threshold a.job.area a.made f a.x a.z a.floor a.ceiling l.0.0 l.1

pub returns-in-None-clause-carries : goal.returns-in-None-clause-carries
returns-in-None-clause-carries c others f H =
    let a = c.args in
    let l = c.in-None.ensures.lands others f H in
    let ready = c.requires.ready in
    let inside = cell_below a.x a.z _ _ ready.1 ready.2 in
    let same = refused-field H (a.x + a.z * a.job.frame.width) (omega (arith, inside, ready.0.all, length-append a.heads.now others)) _ a.job.threshold ready.3 in
    insertion-refused a.job.frame.width a.job.threshold a.job.area a.made f a.x a.z a.floor a.ceiling l.0 (same l.0) l.1
