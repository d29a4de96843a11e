-- `clip::rest::Rest::cut` meets its contract.
use borrow.Author.Rules.{rules}
use mathlib.Core.Path.{◌≡◌, ap, ◌∙◌}
use mathlib.Core.List.{List}
use lib.ListN.{length}
use Rattle.grid.specs.declared.Corner.{Corner}
use Rattle.clip.specs.Cut.{first_of, second_of}
use Rattle.clip.specs.Rest.{left}
use Rattle.clip.proofs.Rounds.{verdict-ok}
use Rattle.clip.proofs.Parts.{part-made, second-held}
use Rattle.clip.proofs.rest.Rest.cut.Goals as goal
use Rattle.clip.proofs.rest.Rest.cut.Goals.{then-self+in_ok-divide, else-self+in_ok-divide-2}

pub returns-clause-part : goal.returns-clause-part
returns-clause-part g c =
    let a = c.args in
    elim c.if-self.branch [
      | then-self+in_ok-divide w ↦
          let here : w.vertices.result.now ≡ left a.self.now = rw (w.vertices.ensures, w.if-self.true) in
          let f = verdict-ok a.axis a.offset _ w.in_ok-divide.ensures.verdict in
          w.first-is ∙ part-made f _ _ w.divide.ensures.first ∙ ap (λ (vs : List Corner). g.F.Part.made a.first.now (first_of a.axis a.offset vs)) here
      | else-self+in_ok-divide-2 w ↦
          let here : w.vertices-else-self.result.now ≡ left a.self.now = rw (w.vertices-else-self.ensures, w.if-self.false) in
          let f = verdict-ok a.axis a.offset _ w.in_ok-divide-2.ensures.verdict in
          w.first-is ∙ part-made f _ _ w.divide-else-self.ensures.first ∙ ap (λ (vs : List Corner). g.F.Part.made a.first.now (first_of a.axis a.offset vs)) here
    ]

pub returns-clause-rest : goal.returns-clause-rest
returns-clause-rest g c =
    let a = c.args in
    elim c.if-self.branch [
      | then-self+in_ok-divide w ↦
          let room : length a.self.now.one.at ≡ 14 = search rules in
          let f = verdict-ok a.axis a.offset _ w.in_ok-divide.ensures.verdict in
          rw (w.self-is, w.if-self.true) (second-held f a.self.now.one room w.divide.ensures.second ∙ ap (λ (vs : List Corner). second_of a.axis a.offset vs) w.vertices.ensures)
      | else-self+in_ok-divide-2 w ↦
          let room : length a.self.now.other.at ≡ 14 = search rules in
          let f = verdict-ok a.axis a.offset _ w.in_ok-divide-2.ensures.verdict in
          rw (w.self-is, w.if-self.false) (second-held f a.self.now.other room w.divide-else-self.ensures.second ∙ ap (λ (vs : List Corner). second_of a.axis a.offset vs) w.vertices-else-self.ensures)
    ]
