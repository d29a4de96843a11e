-- `insert_span` meets its contract: what its four steps promise, put together, is what the rule says.
use mathlib.Core.Path.{◌∙◌}
use Rattle.field.proofs.Landing.{pass-chain, merge-chain, is-refused, take-ready, link-ready, landed, is-accepted}
use Rattle.rerecast.proofs.insertion.insert_span.Goals as goal

pub pass-place-requires-clause-is_chain : goal.pass-place-requires-clause-is_chain
pass-place-requires-clause-is_chain c =
    let h = c.requires.held in pass-chain _ h.0 h.1.1 _ c.requires.column_in_bounds c.args.new c.args.threshold

pub merge-merged-requires-clause-is_chain : goal.merge-merged-requires-clause-is_chain
merge-merged-requires-clause-is_chain c =
    let h = c.requires.held in
    merge-chain _ h.0 h.1.1 _ c.requires.column_in_bounds c.args.new c.args.threshold c.pass-place.ensures

pub returns-then-slots-clause-lands : goal.returns-then-slots-clause-lands
returns-then-slots-clause-lands c others f H =
    is-refused _ others H _ c.requires.column_in_bounds _ _ c.pass-place.ensures c.merge-merged.ensures.absorbs c.if-slots.true

pub take_front-slot-requires : goal.take_front-slot-requires
take_front-slot-requires c =
    let h = c.requires.held in
    let ready = take-ready _ h.0 h.1.1 _ c.requires.column_in_bounds _ _ c.pass-place.ensures c.merge-merged.ensures.absorbs
    c.requires.floor_le_ceiling c.if-slots.false in
    record { sized = ready.0; free_in_bounds = ready.1 }

pub link-requires-clause-before_in_bounds : goal.link-requires-clause-before_in_bounds
link-requires-clause-before_in_bounds c =
    let h = c.requires.held in
    link-ready _ h.0 h.1.1 _ c.requires.column_in_bounds _ _ c.pass-place.ensures c.merge-merged.ensures.absorbs c.take_front-slot.ensures.filled

pub returns-clause-lands : goal.returns-clause-lands
returns-clause-lands c others f H =
    let taken = c.take_front-slot.ensures in
    let l = landed _ others H _ c.requires.column_in_bounds _ _ c.pass-place.ensures c.merge-merged.ensures.absorbs
    c.requires.floor_le_ceiling c.if-slots.false in (
      (l.0, (taken.front ∙ l.1.0, l.1.1)),
      is-accepted _ others H _ c.requires.column_in_bounds _ _ c.pass-place.ensures c.merge-merged.ensures.absorbs
          c.requires.floor_le_ceiling c.if-slots.false taken.front taken.filled c.link.ensures.0 c.link.ensures.1,
    )
