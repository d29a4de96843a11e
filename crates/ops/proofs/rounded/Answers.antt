-- By the tests of x: from 1 on in size it is what `whole` gives of x or of -x, and past 2 ^ 31 the end of the range; between, 1 or -1 where x goes away from zero, and else 0.
use Rattle.std.proofs.Common.{◌≡◌, ℕ, true, false, T, sym, ◌∙◌, subst, inl, inr, arith}
use lib.Ieee.{Float, of_bits, neg, lt}
use Rattle.ops.proofs.Tests.{set, unset}
use Rattle.ops.proofs.Limits.{most, lt-flips, at_most_minus_one}
use Rattle.ops.proofs.Given.{small, given, minus_is}
use Rattle.ops.proofs.Rounding.{inside, outside, one-above, one_below, zero_below, zero-above}
use Rattle.ops.proofs.rounded.Goals as goal
use Rattle.ops.proofs.rounded.Goals.{else-this-ne0-2-via-then-this-ne0-2+else-x-6, else-this-ne0-2-via-else-this-ne0-2}

pub whole-requires-clause-below_limit : goal.whole-requires-clause-below_limit
unfolding of_bits
whole-requires-clause-below_limit g c = subst T (sym c.if-x-2.true) tt

pub returns-then-x-2 : goal.returns-then-x-2
unfolding of_bits
returns-then-x-2 g c =
    let r = c.whole in
    given r.ensures r.type_inv ∙ inside 31 _ _ false c.args.x c.if-x.true c.if-x-2.true (small r.ensures r.type_inv)

pub returns-then-x : goal.returns-then-x
unfolding of_bits
returns-then-x g c = outside 31 _ _ false c.args.x c.if-x.true c.if-x-2.false

-- x is above a number's negation: -x is below the number
turned : (h : ℕ) (x : Float) → lt (neg (most h)) x ≡ true → lt (neg x) (most h) ≡ true
turned h x a = sym (lt-flips (most h) x) ∙ a

pub returns-then-this-ne0 : goal.returns-then-this-ne0
unfolding of_bits
returns-then-this-ne0 g c = rw (set _ c.if-this-ne0.true) (one_below 31 _ c.args.x c.if-x-3.true (turned 0 c.args.x c.if-x-4.true))

pub returns-else-this-ne0 : goal.returns-else-this-ne0
unfolding of_bits
returns-else-this-ne0 g c = rw (unset _ c.if-this-ne0.false) (zero_below 31 _ c.args.x c.if-x-3.true (turned 0 c.args.x c.if-x-4.true))

pub whole-requires-then-x-5-clause-at_least_one : goal.whole-requires-then-x-5-clause-at_least_one
unfolding of_bits
whole-requires-then-x-5-clause-at_least_one g c = subst T (sym (at_most_minus_one c.args.x c.if-x-3.true c.if-x-4.false)) tt

pub whole-requires-then-x-5-clause-below_limit : goal.whole-requires-then-x-5-clause-below_limit
unfolding of_bits
whole-requires-then-x-5-clause-below_limit g c = subst T (sym (turned 31 c.args.x c.if-x-5.true)) tt

pub returns-then-x-5 : goal.returns-then-x-5
unfolding of_bits
returns-then-x-5 g c =
    let r = c.whole-then-x-5 in
    let x = c.args.x in
    minus_is r.ensures r.type_inv
    ∙ inside 31 _ _ true x (at_most_minus_one x c.if-x-3.true c.if-x-4.false) (turned 31 x c.if-x-5.true) (small r.ensures r.type_inv)

pub returns-then-x-3 : goal.returns-then-x-3
unfolding of_bits
returns-then-x-3 g c =
    let x = c.args.x in
    outside 31 _ _ true x (at_most_minus_one x c.if-x-3.true c.if-x-4.false) (sym (lt-flips (most 31) x) ∙ c.if-x-5.false)

pub returns-then-x-6 : goal.returns-then-x-6
unfolding of_bits
returns-then-x-6 g c = rw (set _ c.if-this-ne0-2.true) (one-above 31 (omega arith) _ c.args.x c.if-x.false c.if-x-6.true)

pub returns : goal.returns
unfolding of_bits
returns g c =
    zero-above 31 _ _ c.args.x c.if-x.false c.if-x-3.false
    (elim c.else-this-ne0-2.branch [
      | else-this-ne0-2-via-then-this-ne0-2+else-x-6 w ↦ inr w.if-x-6.false
      | else-this-ne0-2-via-else-this-ne0-2 w ↦ inl (unset _ w.if-this-ne0-2.false)
    ])
