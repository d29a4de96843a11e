-- `offer` meets its contract: its tests of place and order, and past them the insertion.
use Rattle.std.proofs.Common.{◌≡◌, ◌+◌, ◌*◌, ◌<◌, rules}
use Rattle.field.proofs.Offering.{offer-accepted, offer-refused}
use Rattle.rerecast.proofs.heightfield.offer.Goals as goal

pub returns-in-Some-clause-offered : goal.returns-in-Some-clause-offered
returns-in-Some-clause-offered c marks =
    let s = c.args.size in
    let on : (c.args.x < s.width) × (c.args.z < s.height) × (c.in_ok-column.column ≡ c.args.x + c.args.z * s.width) = search rules in
    offer-accepted _ _ _ _ c.args.new _ _ _ marks c.requires.all_columns on.0 on.1 c.columns.ensures on.2 c.if-new.false c.requires.held _ _ c.insert_span.auto.heads
    (λ others f H. let k = c.in-Some.ensures.lands others f H in (k.0.0, k.1))

pub returns-in-None-clause-offered : goal.returns-in-None-clause-offered
returns-in-None-clause-offered c marks =
    let s = c.args.size in
    let on : (c.args.x < s.width) × (c.args.z < s.height) × (c.in_ok-column.column ≡ c.args.x + c.args.z * s.width) = search rules in
    offer-refused _ _ _ _ c.args.new _ _ _ marks c.requires.all_columns on.0 on.1 c.columns.ensures on.2 c.if-new.false c.requires.held _ _ c.insert_span.auto.heads
    c.in-None.ensures.lands
