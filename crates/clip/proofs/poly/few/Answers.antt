-- `clip::poly::few` meets its contract.
use borrow.Author.Rules.{rules}
use mathlib.Core.Path.{◌≡◌, ap, ◌∙◌}
use mathlib.Core.List.{List}
use Prim.Native.Nat.{ℕ}
use native.Mathlib.Omega.{arith}
use lib.Ieee.{nan}
use lib.ListN.{length, take, replicate, get_or, set}
use lib.Seq.{sets, length-take-le}
use Rattle.grid.specs.declared.Corner.{Corner}
use Rattle.clip.specs.Poly.{origin, held}
use Rattle.clip.proofs.Parts.{store-next}
use Rattle.clip.proofs.poly.few.Goals as goal

pub loop-i-preserved : goal.loop-i-preserved
loop-i-preserved c =
    let v = c.loop-i in
    let p = c.args.p.now in
    let o : Corner = record { x = nan; y = nan; z = nan } in
    let room : length p.at ≡ 14 = search rules in
    ap (λ (l : List Corner). set l v.i (get_or p.at v.i o)) v.invariant ∙ store-next (replicate 7 origin) p.at o v.i (omega (arith, c.loop-i-test.true, c.requires))

pub returns : goal.returns
returns c =
    let v = c.loop-i in
    let p = c.args.p.now in
    let room : length p.at ≡ 14 = search rules in
    let n : v.i ≡ p.n = omega (arith, c.loop-i-test.false, v.auto.i-end) in
    let many : p.n ≡ length (held p) = omega (arith, length-take-le p.n p.at (omega (arith, c.requires))) in
    let all : v.at ≡ sets (replicate 7 origin) 0 (held p) = v.invariant ∙ ap (λ (k : ℕ). sets (replicate 7 origin) 0 (take k p.at)) n in
    λ i. record { at = all i; n = many i }
