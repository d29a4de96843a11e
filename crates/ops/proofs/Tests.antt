-- Of tests: what two of them together say of each, and when two are equal.
use Rattle.std.proofs.Common.{◌≡◌, ℕ, ◌≤◌, Bool, true, false, not, ◌&&◌, ◌||◌, eqb, ltb, leb, sym, refl, ap, true≢false, eq-eqb, ltb-false, le-ltb, le-leb, leb-true}
use Rattle.std.proofs.lemmas.Bool.{ne_eqb}
use borrow.Author.Tests.{not-true}

pub both : (a b : Bool) → a && b ≡ true → (a ≡ true) × (b ≡ true)
both true b h = (refl, h)
both false b h = absurd (true≢false (sym h))

pub none_of : (a b : Bool) → a || b ≡ false → (a ≡ false) × (b ≡ false)
none_of true b h = absurd (true≢false h)
none_of false b h = (refl, h)

-- two tests that pass together are equal
pub same : (a b : Bool) → (a ≡ true → b ≡ true) → (b ≡ true → a ≡ true) → a ≡ b
same true b f g = sym (f refl)
same false true f g = g refl
same false false f g = refl

pub leb-ltb : (a b c d : ℕ) → (a ≤ b → d ≤ c) → (d ≤ c → a ≤ b) → leb a b ≡ not (ltb c d)
leb-ltb a b c d f g =
    same (leb a b) (not (ltb c d))
    (λ h. ap not (le-ltb c d (f (leb-true a b h))))
    (λ h. le-leb a b (g (ltb-false c d (not-true (ltb c d) h))))

-- a const flag is kept as a number, and is set where that is not 0
pub set : (n : ℕ) → (n ≡ 0 → ⊥) → not (eqb n 0) ≡ true
set n h = ap not (ne_eqb n 0 h)

pub unset : (n : ℕ) → n ≡ 0 → not (eqb n 0) ≡ false
unset n h = ap not (eq-eqb n 0 h)
