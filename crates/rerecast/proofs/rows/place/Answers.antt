-- `rows::place` meets its contract.
use mathlib.Core.Path.{refl}
use native.Mathlib.Omega.{arith}
use Rattle.std.specs.Prelude.{Some, None, Ok, Err}
use Rattle.clip.specs.Snap.{max_height}
use Rattle.clip.proofs.Snaps.{span-heights}
use Rattle.field.proofs.Carrying.{remains-is, remains-of}
use Rattle.field.proofs.Cells.{cell-is}
use Rattle.rerecast.proofs.rows.place.Goals as goal

pub put-requires-clause-ready : goal.put-requires-clause-ready
put-requires-clause-ready c =
    let heights = span-heights max_height _ _ _ _ _ (Ok (Some c.in-Ok-Some.field-0-0)) (rw c.in-Ok-Some.field-0-is at c.in-Ok-Some.ensures) c.in-Ok-Some.field-0-0 refl in
    let ready = c.requires.ready in
    (ready.0, ready.1, ready.2, omega (arith, heights.0), ready.3)

pub returns-in-Ok-None-clause-carries : goal.returns-in-Ok-None-clause-carries
returns-in-Ok-None-clause-carries c others f part el eh H =
    let a = c.args in
    remains-is a.job.frame.width a.job.threshold a.job.area a.made (cell-is a.job.frame a.z a.x part _ _ el eh (Ok None) (rw c.in-Ok-None.field-0-is at c.in-Ok-None.ensures)) H

pub returns-in-Err-clause-carries : goal.returns-in-Err-clause-carries
returns-in-Err-clause-carries c others f part el eh H =
    let a = c.args in
    remains-is a.job.frame.width a.job.threshold a.job.area a.made (cell-is a.job.frame a.z a.x part _ _ el eh (Err c.in-Err.field-0) c.in-Err.ensures) H

pub returns-in-Ok-Some-clause-carries : goal.returns-in-Ok-Some-clause-carries
returns-in-Ok-Some-clause-carries c others f part el eh H =
    let a = c.args in
    remains-of a.job.frame.width a.job.threshold a.job.area a.made f
    (cell-is a.job.frame a.z a.x part _ _ el eh (Ok (Some c.in-Ok-Some.field-0-0)) (rw c.in-Ok-Some.field-0-is at c.in-Ok-Some.ensures))
    (c.put.ensures.carries others f H)
