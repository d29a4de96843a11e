-- `clip::rest::Rest::begin` meets its contract.
use borrow.Author.Rules.{rules}
use mathlib.Core.Path.{◌≡◌, refl, ap, ◌∙◌}
use mathlib.Core.List.{List, [], ◌∷◌}
use native.Mathlib.Omega.{arith}
use lib.ListN.{length}
use Rattle.grid.specs.declared.Corner.{Corner}
use Rattle.clip.specs.Rest.{left}
use Rattle.clip.proofs.Parts.{held-made}
use Rattle.clip.proofs.rest.Rest.begin.Goals as goal

pub returns : goal.returns
returns c =
    let a = c.args in
    let room : length a.self.now.one.at ≡ 14 = search rules in
    let vs : List Corner = a.a ∷ a.b ∷ a.c ∷ [] in
    ap left (c.end.ensures a.self.now vs refl refl) ∙ held-made a.self.now.one vs (omega (arith, room))
