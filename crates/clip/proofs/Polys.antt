-- Of polygons by value: what `divide_poly` owes, by how many vertices there are, and an answer that fixes all of it.
use mathlib.Core.Path.{◌≡◌, refl, sym, ap, ◌∙◌}
use mathlib.Core.List.{List}
use Prim.Native.Nat.{ℕ, ◌≤◌, ◌<◌}
use native.Mathlib.Omega.{arith}
use lib.ListN.{length}
use lib.Seq.{length-take-le}
use lib.Ieee.{Float}
use borrow.Author.Tests.{le-leb, lt-leb}
use Rattle.std.specs.Prelude.{Result, Ok, Err, IsErr, is_ok}
use Rattle.replies.specs.Said.{Said}
use Rattle.grid.specs.declared.Corner.{Corner}
use Rattle.clip.specs.declared.cut.Axis.{Axis}
use Rattle.clip.specs.declared.cut.EighthVertex.{EighthVertex}
use Rattle.clip.specs.declared.poly.Vertices.{Vertices}
use Rattle.clip.specs.declared.poly.Parts.{Parts}
use Rattle.clip.specs.Cut.{Cut, parts, eighth, slice_cut}
use Rattle.clip.specs.Poly.{held, poly_of, poly_cut, said_of, Answers}

-- ---- a polygon of at most 7 vertices, and one that names more
pub poly-few : (axis : Axis) (offset : Float) (p : Vertices 7) → p.n ≤ 7 → p.n ≤ length p.at → poly_cut axis offset p ≡ slice_cut axis offset (held p)
unfolding poly_cut slice_cut
poly-few axis offset p h k =
    let n : length (held p) ≤ 7 = omega (arith, length-take-le p.n p.at k) in
    rw (le-leb p.n 7 h, le-leb (length (held p)) 7 n)

pub poly-many : (axis : Axis) (offset : Float) (p : Vertices 7) → 7 < p.n → poly_cut axis offset p ≡ eighth
unfolding poly_cut
poly-many axis offset p h = rw (lt-leb p.n 7 h)

-- ---- a refusal, and both parts
pub refusal : (cut : Cut) (r : Result Parts EighthVertex) → cut ≡ eighth → IsErr r → Answers cut r
refusal cut (Ok p) e h = let z : ◌≡◌ {A = ℕ} 0 1 = cc in absurd (omega arith)
refusal cut (Err x) e h = rw e (record { said = refl; parts-are = tt })

pub answer : (cut : Cut) (f s : List Corner) {first second : Vertices 7} → cut ≡ parts f s → first ≡ poly_of f → second ≡ poly_of s → Answers cut (Ok (record { first = first; second = second }))
answer cut f s e p q = rw e (record { said = refl; parts-are = (p, q) })

-- ---- what is said tells the answers apart; of one that carries parts, whether it has them
pub said-once : (a b : Result Unit EighthVertex) → said_of a ≡ said_of b → a ≡ b
said-once (Ok p) (Ok q) e = refl
said-once (Ok p) (Err d) e = let n = ap (λ (s : Said). s.number) e in absurd (omega (arith, n))
said-once (Err d) (Ok q) e = let n = ap (λ (s : Said). s.number) e in absurd (omega (arith, n))
said-once (Err d) (Err e) f = refl

pub accepted-once : (a b : Result Parts EighthVertex) → said_of a ≡ said_of b → is_ok a ≡ is_ok b
accepted-once (Ok p) (Ok q) e = refl
accepted-once (Ok p) (Err d) e = let n = ap (λ (s : Said). s.number) e in absurd (omega (arith, n))
accepted-once (Err d) (Ok q) e = let n = ap (λ (s : Said). s.number) e in absurd (omega (arith, n))
accepted-once (Err d) (Err e) f = refl

-- ---- a cut has one answer
pub one_answer : (cut : Cut) (r r' : Result Parts EighthVertex) → Answers cut r → Answers cut r' → r ≡ r'
one_answer (parts first second) (Ok p) (Ok q) a b =
    let f : p.first ≡ q.first = a.parts-are.0 ∙ sym b.parts-are.0 in
    let s : p.second ≡ q.second = a.parts-are.1 ∙ sym b.parts-are.1 in
    λ i. Ok (record { first = f i; second = s i })
one_answer (parts first second) (Ok p) (Err e) a b = absurd b.parts-are
one_answer (parts first second) (Err e) r a b = absurd a.parts-are
one_answer eighth (Ok p) r a b = absurd a.parts-are
one_answer eighth (Err e) (Ok q) a b = absurd b.parts-are
one_answer eighth (Err d) (Err e) a b = refl
