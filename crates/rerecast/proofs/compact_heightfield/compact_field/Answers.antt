-- The tally, the room and the complete result, each an end of the call.
use mathlib.Core.Path.{ap}
use mathlib.Core.Bool.{not}
use Rattle.field.specs.Store.{store}
use Rattle.field.specs.Compact.{Room}
use Rattle.field.proofs.Basics.{says-true, says-false}
use Rattle.rerecast.specs.Lent.{slots_in, compact_of}
use Rattle.rerecast.proofs.CompactCall.{ends-crowded, ends-short, ends-complete}
use Rattle.rerecast.proofs.compact_heightfield.compact_field.Goals as goal

pub returns-in_default-clause-compacts : goal.returns-in_default-clause-compacts
returns-in_default-clause-compacts c marks =
    let s = c.args in
    let S = store s.columns.now.heads.now (slots_in s.columns.now s.areas.now) marks in
    let g = c.requires.held in
    ends-crowded s.size.width s.size.height s.top s.tall s.climb S (compact_of s.compact.now) g.0 g.1 (c.in_default.ensures g.0 (rw c.columns.ensures g.1))

pub returns-then-not-has_room-clause-compacts : goal.returns-then-not-has_room-clause-compacts
returns-then-not-has_room-clause-compacts c marks =
    let s = c.args in
    let S = store s.columns.now.heads.now (slots_in s.columns.now s.areas.now) marks in
    let g = c.requires.held in
    let T = c.in-Some.ensures g.0 (rw c.columns.ensures g.1) in
    let no = says-false {P = Room c.in-Some.total (compact_of s.compact.now).rows} c.has_room.result (ap not c.if-not-has_room.true) c.has_room.ensures in
    ends-short s.size.width s.size.height s.top s.tall s.climb S (compact_of s.compact.now) g.0 g.1 T.0 (λ r. no (rw T.1 r))

pub complete_columns-layer-requires-clause-held : goal.complete_columns-layer-requires-clause-held
complete_columns-layer-requires-clause-held c =
    let g = c.requires.held in
    let T = c.in-Some.ensures g.0 (rw c.columns.ensures g.1) in
    let room = says-true {P = Room c.in-Some.total (compact_of c.args.compact.now).rows} c.has_room.result (ap not c.if-not-has_room.false) c.has_room.ensures in
    (g.0, rw c.columns.ensures g.1, T.0, rw T.1 at room)

pub returns-clause-compacts : goal.returns-clause-compacts
returns-clause-compacts c marks =
    let s = c.args in
    let S = store s.columns.now.heads.now (slots_in s.columns.now s.areas.now) marks in
    let g = c.requires.held in
    let T = c.in-Some.ensures g.0 (rw c.columns.ensures g.1) in
    let room = says-true {P = Room c.in-Some.total (compact_of s.compact.now).rows} c.has_room.result (ap not c.if-not-has_room.false) c.has_room.ensures in
    let r = rw T.1 at room in
    let d = c.complete_columns-layer.ensures.completed g.0 (rw c.columns.ensures g.1) r in
    ends-complete s.size.width s.size.height s.top s.tall s.climb S (compact_of s.compact.now) g.0 g.1 T.0 r c.reply_of.ensures d.0 d.1
