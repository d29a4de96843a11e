-- `CompactSpan::with_links` meets its contract: the links go in from the last to the first, each below what is packed.
use Rattle.std.proofs.Common.{◌≡◌, length, ◌∙◌, rules, tests}
use Rattle.std.proofs.lemmas.Iterator.Adapters.{YieldsList-from_rev_slice}
use Rattle.std.proofs.lemmas.Iterator.Consumers.{fold_from_yields_List}
use Rattle.compact_span.proofs.Base64.{push, push-links}
use Rattle.compact_span.proofs.CompactSpan.with_links.Goals as goal

pub returns : goal.returns
returns c =
    let a = c.args in
    let four : length a.links ≡ 4 = search rules in
    fold_from_yields_List _ push a.height _ c.fold.ensures.ran (YieldsList-from_rev_slice a.links cc) (λ u l r q k. search (rules, tests))
    ∙ push-links a.height a.links c.ranges.height.fits four
