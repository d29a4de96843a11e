-- `clip::poly::PolygonPart::put` meets its contract, where there is room for the vertex and where there is none.
use borrow.Author.Rules.{rules}
use mathlib.Core.Path.{◌≡◌}
use Prim.Native.Nat.{◌≤◌}
use native.Mathlib.Omega.{arith}
use lib.ListN.{length}
use Rattle.clip.proofs.Parts.{polygon-put, polygon-full}
use Rattle.clip.proofs.poly.PolygonPart.put.Goals as goal

pub returns-then-at-lt14 : goal.returns-then-at-lt14
returns-then-at-lt14 c s vs many held = let a = c.args in polygon-put a.self.now s vs a.at a.v many held

pub returns-else-at-lt14 : goal.returns-else-at-lt14
returns-else-at-lt14 c s vs many held =
    let a = c.args in
    let room : length a.self.now.at ≡ 14 = search rules in
    let full : length a.self.now.at ≤ a.at = omega (arith, room, c.if-at-lt14.false) in
    polygon-full a.self.now s vs a.at a.v many full held
