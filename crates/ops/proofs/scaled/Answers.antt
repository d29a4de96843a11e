-- The digits of x's pattern, shifted as its exponent says, are x in units of 2 ^ -23 (Bits).
use Rattle.std.proofs.Common.{◌≡◌, true, T, sym, subst}
use lib.Ieee.{binary32, fits, le, lt}
use lib.Ieee.Bits.{is_true}
use Rattle.ops.proofs.Limits.{most}
use Rattle.ops.proofs.Bits.{bits_fit, at_one, shift, exact, room}
use Rattle.ops.proofs.scaled.Goals as goal

-- what owning an `f32` tells: the format holds it
held : (c : goal.Start) → T (fits binary32 c.args.x)
held c = subst T (sym c.well_formed.0.1) tt

low : (c : goal.Start) → le (most 0) c.args.x ≡ true
low c = is_true _ c.requires.at_least_one

high : (c : goal.Start) → lt c.args.x (most 31) ≡ true
high c = is_true _ c.requires.below_limit

pub overflow_cast-bits : goal.overflow_cast-bits
overflow_cast-bits c = record { fits = bits_fit c.args.x (held c) (low c) (high c) }

pub overflow_sub-result : goal.overflow_sub-result
overflow_sub-result c = at_one c.args.x (held c) (low c) (high c)

pub overflow_shl-result : goal.overflow_shl-result
overflow_shl-result c = shift c.args.x (held c) (low c) (high c)

pub returns-clause-same_value : goal.returns-clause-same_value
returns-clause-same_value c = exact c.args.x (held c) (low c) (high c)

pub returns-clause-room : goal.returns-clause-room
returns-clause-room c = room c.args.x (held c) (low c) (high c)
