-- `clip::rest::Rest::vertices` meets its contract.
use borrow.Author.Rules.{rules}
use mathlib.Core.Path.{◌≡◌, ◌∙◌}
use lib.ListN.{length}
use Rattle.clip.specs.Rest.{left}
use Rattle.clip.proofs.Parts.{rest-made}
use Rattle.clip.proofs.rest.Rest.vertices.Goals as goal

pub returns-then-self-clause-whole : goal.returns-then-self-clause-whole
returns-then-self-clause-whole c r vs few e =
    let s = c.args.self.now in
    let room : length s.one.at ≡ 14 = search rules in
    let here : c.vertices.result.now ≡ left s = rw (c.vertices.ensures, c.if-self.true) in
    here ∙ rest-made r vs e room few

pub returns-else-self-clause-whole : goal.returns-else-self-clause-whole
returns-else-self-clause-whole c r vs few e =
    let s = c.args.self.now in
    let room : length s.one.at ≡ 14 = search rules in
    let here : c.vertices-else-self.result.now ≡ left s = rw (c.vertices-else-self.ensures, c.if-self.false) in
    here ∙ rest-made r vs e room few
