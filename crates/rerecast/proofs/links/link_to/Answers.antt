-- The first layer that is not behind is the link, if it passes and a link may go to it. Where none does, and there are layers from 63 on, the largest of those
-- that passes is missed.
use mathlib.Core.Bool.{Bool}
use native.Mathlib.Omega.{arith}
use borrow.Author.Tests.{not-true, not-false}
use Rattle.field.specs.Open.{Open, space}
use Rattle.field.specs.Links.{passes}
use Rattle.field.proofs.Layers.{link-first, link-none, missed-linked, missed-shown, missed-none}
use Rattle.rerecast.specs.declared.links.Post.{Post}
use Rattle.rerecast.proofs.LinkCursors.{none_below, none_at_all}
use Rattle.rerecast.proofs.links.link_to.Goals as goal

-- to which open spaces whoever stands there passes
abbrev pass : Post → Open → Bool
pass q = passes q.tall q.climb (space q.y q.height 0)

pub returns-then-not-look : goal.returns-then-not-look
returns-then-not-look c =
    let s = c.args in
    let ys = s.compact.now.ys.now in
    let ws = s.compact.now.words.now in
    let L = c.look_up-look.ensures in
    let none = none_at_all L (not-true _ c.if-not-look.true) in (
      link-none ys ws s.side.first s.side.count (pass s.q) (λ j a b. none j a (omega arith)),
      missed-none ys ws s.side.first s.side.count (pass s.q) none,
      record { few = L.few; behind = L.behind },
    )

pub returns-then-from-lt62 : goal.returns-then-from-lt62
returns-then-from-lt62 c =
    let s = c.args in
    let ys = s.compact.now.ys.now in
    let ws = s.compact.now.words.now in
    let L = c.look_up-look.ensures in
    let hit = L.hit (not-false _ c.if-not-look.false) in
    let e = link-first ys ws s.side.first s.side.count (pass s.q) c.look_up-look.result.at hit.0 c.if-from-lt62.true (none_below L) hit.1 in
    (e, missed-linked ys ws s.side.first s.side.count (pass s.q) e c.if-from-lt62.true, record { few = L.few; behind = L.behind })

pub largest_layer-requires-clause-none_passes : goal.largest_layer-requires-clause-none_passes
largest_layer-requires-clause-none_passes c = none_below c.look_up-look.ensures

pub returns : goal.returns
returns c =
    let s = c.args in
    let ys = s.compact.now.ys.now in
    let ws = s.compact.now.words.now in
    let L = c.look_up-look.ensures in
    let hit = L.hit (not-false _ c.if-not-look.false) in
    let e = link-none ys ws s.side.first s.side.count (pass s.q) (λ j a b. none_below L j a (omega (arith, c.if-from-lt62.false))) in
    let m = missed-shown ys ws s.side.first s.side.count (pass s.q) e (omega (arith, c.if-from-lt62.false, hit.0)) c.largest_layer.ensures in
    (e, m, record { few = L.few; behind = L.behind })
