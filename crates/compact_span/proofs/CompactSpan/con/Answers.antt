-- `CompactSpan::con` meets its contract: a shift and a mask read the link, and 63 is the empty one.
use Rattle.std.proofs.Common.{◌≡◌, ◌≤◌, ℕ, true, false, not, cond, eqb, None, Some, refl, arith, ap, ◌∙◌, le-ltb}
use Rattle.std.specs.Bool.{then_some}
use Rattle.compact_span.specs.Word.{empty_mark}
use Rattle.compact_span.specs.Span.{link_at}
use Rattle.compact_span.specs.Replies.{link_of, link_said}
use Rattle.compact_span.proofs.Bits.{con-law}
use Rattle.compact_span.proofs.CompactSpan.con.Goals as goal

-- the code's link of a number is the definition's
as_link : (n : ℕ) → then_some (not (eqb n empty_mark)) n ≡ link_of n
as_link n = elim (eqb n empty_mark) as (λ b. then_some (not b) n ≡ cond b None (Some n)) [ true ↦ refl | false ↦ refl ]

pub returns : goal.returns
unfolding link_at
returns c =
    let a = c.args in
    let within : a.dir ≤ 3 = omega arith in
    let read = con-law a.self.«data» a.dir (omega arith) in
    simp (le-ltb _ _ within) (ap link_said (c.then_some.ensures ∙ as_link _ ∙ ap link_of read))
