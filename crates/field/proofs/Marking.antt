-- The loop that marks a chain's slots, of a column or of the free ones: what is left is fair exactly if the whole is.
use mathlib.Core.Path.{◌≡◌, refl, sym, ap, ◌∙◌}
use mathlib.Core.Logic.{◌≢◌}
use mathlib.Core.List.{List, [], ◌∷◌}
use Prim.Native.Nat.{ℕ, zero, suc, ◌+◌, ◌-◌, ◌<◌, ◌≤◌}
use native.Mathlib.Omega.{arith}
use native.Mathlib.Nat.{le_of_suc-le-suc, not-suc-le-zero}
use native.Mathlib.Decide.{ℕ_discrete}
use lib.ListN.{length, get_or, set, length-set}
use lib.Seq.{get_or-set_same, get_or-set_other}
use Rattle.field.specs.Slots.{none, Run, same, times}
use Rattle.field.specs.Marks.{Flags, unmarked, Free, Marked, Broken, Climbs, Any, InTurn}
use Rattle.field.proofs.Basics.{by-dec}
use Rattle.field.proofs.Counting.{same_refl, same-other, same-eq}

-- ---- one mark more

unmarked-set : (mk : List ℕ) (i : ℕ) → i < length mk → get_or mk i 0 ≡ 0 → unmarked mk ≡ suc (unmarked (set mk i 1))
unmarked-set [] i l z = absurd (not-suc-le-zero l)
unmarked-set (m ∷ ms) zero l z = omega (arith, same-eq m 0 z, same-other 1 0 (λ e. omega arith))
unmarked-set (m ∷ ms) (suc i) l z = omega (arith, unmarked-set ms i (le_of_suc-le-suc l) z)

mark-at : (mk : List ℕ) (i x : ℕ) → i < length mk → get_or mk i 0 ≡ 0 → get_or (set mk i 1) x 0 ≡ get_or mk x 0 + same x i
mark-at mk i x l z =
    by-dec (ℕ_discrete x i) (λ e. rw e (get_or-set_same mk i 1 0 l ∙ omega (arith, same_refl i)))
    (λ d. get_or-set_other mk i x 1 0 d ∙ omega (arith, same-other x i d))

-- where none is unmarked each mark is set
pub unmarked-none : (mk : List ℕ) → unmarked mk ≡ 0 → (k : ℕ) → k < length mk → get_or mk k 0 ≢ 0
unmarked-none [] e k l = absurd (not-suc-le-zero l)
unmarked-none (m ∷ ms) e zero l = λ z. omega (arith, same-eq m 0 z)
unmarked-none (m ∷ ms) e (suc k) l = unmarked-none ms (omega arith) k (le_of_suc-le-suc l)

pub none-unmarked : (mk : List ℕ) → ((k : ℕ) → k < length mk → get_or mk k 0 ≢ 0) → unmarked mk ≡ 0
none-unmarked [] h = refl
none-unmarked (m ∷ ms) h = omega (arith, same-other m 0 (h 0 (omega arith)), none-unmarked ms (λ k l. h (suc k) (omega arith)))

-- ---- the loop

-- a chain that goes on
free-cons : {nx mk : List ℕ} {h : ℕ} (ss : List ℕ) → Free nx mk h ss → h ≢ none → (tl : List ℕ) × (ss ≡ h ∷ tl) × (h < length nx) × Run nx (get_or nx h 0) tl none × ((x : ℕ) → get_or mk x 0 + (same x h + times x tl) ≤ 1)
free-cons [] f n = absurd (n f.run)
free-cons {nx} {mk} {h} (s ∷ ss) f n =
    let e = f.run.0 in
    (ss, ap (λ (k : ℕ). k ∷ ss) (sym e), rw e f.run.1, rw e f.run.2, rw e f.once)

-- `Fair₀` is asked of the whole chain, and `Fair` of what is left of it
pub record Marking (nx mk₀ : List ℕ) (head : ℕ) (Fair₀ : List ℕ → Type 0) (mk : List ℕ) (at n : ℕ) (Fair : List ℕ → Type 0) : Type 0 where
  pub size : length mk ≡ length mk₀
  pub size₀ : length mk₀ ≡ length nx
  pub few : length nx ≤ 1048576
  pub flags : Flags mk
  pub count : n + unmarked mk ≡ length nx
  pub back : (ss : List ℕ) → Free nx mk at ss → Fair ss → (ss₀ : List ℕ) × Run nx head ss₀ none × Fair₀ ss₀ × ((x : ℕ) → get_or mk x 0 + times x ss ≡ get_or mk₀ x 0 + times x ss₀)
  pub forth : (ss₀ : List ℕ) → Free nx mk₀ head ss₀ → Fair₀ ss₀ → (ss : List ℕ) × Free nx mk at ss × Fair ss

pub marking-start : (nx mk : List ℕ) (head n : ℕ) (Fair : List ℕ → Type 0) → length mk ≡ length nx → length nx ≤ 1048576 → Flags mk → n + unmarked mk ≡ length nx → Marking nx mk head Fair mk head n Fair
marking-start nx mk head n Fair z few fl c =
    record {
      size = refl;
      size₀ = z;
      few = few;
      flags = fl;
      count = c;
      back = λ ss f g. (ss, f.run, g, λ x. refl);
      forth = λ ss f g. (ss, f, g);
    }

module _ {nx mk₀ : List ℕ} {head : ℕ} {Fair₀ : List ℕ → Type 0} {mk : List ℕ} {at n : ℕ} {Fair : List ℕ → Type 0} (p : Marking nx mk₀ head Fair₀ mk at n Fair) where
  -- there is a next slot, not marked yet; `Fair'` is asked of what is left then
  pub marking_step : (Fair' : List ℕ → Type 0) → at ≢ none → at < length nx → get_or mk at 0 ≡ 0 → ((ss : List ℕ) → Fair (at ∷ ss) → Fair' ss) → ((ss : List ℕ) → Fair' ss → Fair (at ∷ ss)) → Marking nx mk₀ head Fair₀ (set mk at 1) (get_or nx at 0) (n + 1) Fair'
  marking_step Fair' there l z on off =
      let m : at < length mk = omega (arith, p.size, p.size₀) in
      let mark : (x : ℕ) → get_or (set mk at 1) x 0 ≡ get_or mk x 0 + same x at = λ x. mark-at mk at x m z in
      record {
        size = length-set mk at 1 ∙ p.size;
        size₀ = p.size₀;
        few = p.few;
        flags =
            λ x.
            by-dec (ℕ_discrete x at) (λ e. rw e (omega (arith, mark at, same_refl at)))
            (λ d. omega (arith, mark x, same-other x at d, p.flags x));
        count = omega (arith, p.count, unmarked-set mk at m z);
        back =
            λ ss f g.
            let k = p.back (at ∷ ss) (record { run = (refl, l, f.run); once = λ x. omega (arith, f.once x, mark x) }) (off ss g) in
            (k.0, k.1, k.2, λ x. omega (arith, k.3 x, mark x));
        forth =
            λ ss₀ f g.
            let q = p.forth ss₀ f g in
            let k = free-cons q.0 q.1 there in
            (k.0, record { run = k.3; once = λ x. omega (arith, k.4 x, mark x) }, on k.0 (rw k.1 at q.2));
      }

  -- one slot less is unmarked, and there is room to count it
  pub marking-less : at < length nx → get_or mk at 0 ≡ 0 → unmarked (set mk at 1) < unmarked mk
  marking-less l z = omega (arith, unmarked-set mk at (omega (arith, p.size, p.size₀)) z)

  pub marking-room : n ≤ 1048576
  marking-room = omega (arith, p.count, p.few)

  -- the chain comes to no slot, or to one that is marked, or what is left of it is not fair
  pub marking-out : at ≢ none → length nx ≤ at → Broken nx mk₀ head Fair₀
  marking-out there l ss f g =
      let q = p.forth ss f g in
      let k = free-cons q.0 q.1 there in
      omega (arith, k.2)

  pub marking-twice : at ≢ none → get_or mk at 0 ≢ 0 → Broken nx mk₀ head Fair₀
  marking-twice there d ss f g =
      let q = p.forth ss f g in
      let k = free-cons q.0 q.1 there in
      d (omega (arith, k.4 at, same_refl at))

  pub marking-unfair : at ≢ none → ((ss : List ℕ) → Fair (at ∷ ss) → ⊥) → Broken nx mk₀ head Fair₀
  marking-unfair there no_more ss f g =
      let q = p.forth ss f g in
      let k = free-cons q.0 q.1 there in
      no_more k.0 (rw k.1 at q.2)

  pub marking-end : Fair [] → at ≡ none → Marked nx mk₀ head Fair₀ mk n
  marking-end g e =
      let k = p.back [] (record { run = e; once = λ x. omega (arith, p.flags x) }) g in
      record { ss = k.0; run = k.1; fair = k.2; adds = λ x. omega (arith, k.3 x); flags = p.flags; count = p.count }

-- ---- a column, whose spans have to ascend: the tests and the turn as the code has them, with the slot's index `i`, its floor and its ceiling

module _ (fl ce : List ℕ) {nx mk₀ : List ℕ} {head : ℕ} {Fair₀ : List ℕ → Type 0} {mk : List ℕ} {at n low : ℕ} (p : Marking nx mk₀ head Fair₀ mk at n (Climbs fl ce low)) (there : at ≢ none) {i : ℕ} (ei : i ≡ at) {floor : ℕ} (ef : floor ≡ get_or fl i 0) where
  pub marking-low : floor < low → Broken nx mk₀ head Fair₀
  marking-low l = marking-unfair p there (λ ss a. omega (arith, a.0, rw ei at ef))

  module _ {ceiling : ℕ} (ec : ceiling ≡ get_or ce i 0) where
    pub marking-thin : ceiling < floor → Broken nx mk₀ head Fair₀
    marking-thin l = marking-unfair p there (λ ss a. omega (arith, a.1, rw ei at ef, rw ei at ec))

    pub marking-climb : at < length nx → get_or mk at 0 ≡ 0 → low ≤ floor → floor ≤ ceiling → Marking nx mk₀ head Fair₀ (set mk i 1) (get_or nx i 0) (n + 1) (Climbs fl ce (ceiling + 1))
    marking-climb l z up thick =
        let f : floor ≡ get_or fl at 0 = rw ei at ef in
        let c : ceiling ≡ get_or ce at 0 = rw ei at ec in
        let e : ceiling + 1 ≡ suc (get_or ce at 0) = omega arith in
        rw (ei, e) (marking_step p (Climbs fl ce (suc (get_or ce at 0))) there l z (λ ss a. a.2) (λ ss a. (omega arith, omega arith, a)))

-- ---- free slots that follow one another, marked in turn

module _ {nx mk : List ℕ} {from : ℕ} where
  turn_up : {to : ℕ} {mk' : List ℕ} → InTurn nx mk from to mk' → from ≤ to
  turn_up InTurn.start = omega arith
  turn_up (InTurn.then t l e z) = omega (arith, turn_up t)

  pub turn-size : {to : ℕ} {mk' : List ℕ} → InTurn nx mk from to mk' → length mk' ≡ length mk
  turn-size InTurn.start = refl
  turn-size (InTurn.then {to = to} {marks' = mk'} t l e z) = length-set mk' to 1 ∙ turn-size t

  turn-there : {to : ℕ} {mk' : List ℕ} → InTurn nx mk from to mk' → length nx ≤ 1048576 → from ≢ none → to ≢ none
  turn-there InTurn.start few there = there
  turn-there (InTurn.then t l e z) few there = λ k. omega arith

  -- as many turns of the loop
  turn-marking : {mk₀ : List ℕ} {head n to : ℕ} {mk' : List ℕ} → Marking nx mk₀ head Any mk from n Any → InTurn nx mk from to mk' → Marking nx mk₀ head Any mk' to (n + (to - from)) Any
  turn-marking {n = n} p InTurn.start =
      let m : n + (from - from) ≡ n = omega arith in
      rw m p
  turn-marking {n = n} p (InTurn.then {to = to} {marks' = mk'} t l e z) =
      let q = turn-marking p t in
      let m : n + (to - from) + 1 ≡ n + (to + 1 - from) = omega (arith, turn_up t) in
      rw (e, m) at (marking_step q Any (λ k. omega (arith, q.few)) l z (λ ss f. f) (λ ss f. f))

-- the tests and the turn as the code has them, which goes on from slot `to`
module _ {nx mk₀ : List ℕ} {head : ℕ} {mk : List ℕ} {at n : ℕ} (p : Marking nx mk₀ head Any mk at n Any) (there : at ≢ none) {from : ℕ} (ea : from ≡ at) {to : ℕ} {mk' : List ℕ} (t : InTurn nx mk from to mk') where
  turned : Marking nx mk₀ head Any mk' to (n + (to - from)) Any
  turned = turn-marking (rw ea p) t

  still-there : to ≢ none
  still-there = turn-there t p.few (rw ea there)

  pub run_out : length nx ≤ to → Broken nx mk₀ head Any
  run_out = marking-out turned still-there

  pub run-twice : get_or mk' to 0 ≢ 0 → Broken nx mk₀ head Any
  run-twice = marking-twice turned still-there

  pub run_room : (from ≤ to) × (n + (to - from) ≤ 1048576)
  run_room = (turn_up t, marking-room turned)

  module _ (l : to < length nx) (z : get_or mk' to 0 ≡ 0) where
    pub run_step : Marking nx mk₀ head Any (set mk' to 1) (get_or nx to 0) (n + (to - from + 1)) Any
    run_step =
        let m : n + (to - from) + 1 ≡ n + (to - from + 1) = omega arith in
        rw m at (marking_step turned Any still-there l z (λ ss f. f) (λ ss f. f))

    pub run-less : unmarked (set mk' to 1) < unmarked mk
    run-less = omega (arith, p.count, run_step.count)
