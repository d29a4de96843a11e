-- `answers::bits_of` meets its contract: a NaN differs from itself, and nothing else does.
use mathlib.Core.Path.{◌≡◌, refl, sym, ap, subst, ◌∙◌}
use mathlib.Core.Bool.{true, false, not}
use lib.Dec.{T}
use lib.Ieee.{Float, nan, inf, fin, binary32, ne, is_nan, to_bits}
use lib.Ieee.Compare.{differs_from_itself, nan_differs}
use Rattle.c_api.proofs.answers.bits_of.Goals as goal

nan-bits : to_bits binary32 nan ≡ 0x7fc0_0000
unfolding to_bits
nan-bits = refl

of_nan : (x : Float) → ne x x ≡ true → 0x7fc0_0000 ≡ to_bits binary32 x
of_nan x e = sym (ap (to_bits binary32) (differs_from_itself x (subst T (sym e) tt)) ∙ nan-bits)

no_nan : (x : Float) → ne x x ≡ false → T (not (is_nan x))
unfolding is_nan
no_nan nan e = subst T (sym nan_differs ∙ e) tt
no_nan (inf s) e = tt
no_nan (fin s m d) e = tt

pub returns-then-x : goal.returns-then-x
returns-then-x c = of_nan c.args.x c.if-x.true

pub float_to_bits-result : goal.float_to_bits-result
float_to_bits-result c = no_nan c.args.x c.if-x.false
