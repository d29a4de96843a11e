-- `look_around` meets its contract: once there is a drop, what is left to look at is not needed.
use mathlib.Core.Path.{◌≡◌}
use mathlib.Core.Bool.{true}
use mathlib.Core.List.{List, [], ◌∷◌, map, foldl}
use Prim.Native.Nat.{ℕ, ◌+◌, ◌-◌, ◌≤◌}
use native.Mathlib.Omega.{arith}
use Rattle.field.specs.declared.Span.{Span}
use Rattle.field.specs.Slots.{Contents, span_at}
use Rattle.field.specs.Ledges.{Stand}
use Rattle.field.specs.LedgeTest.{View, outset, looked}
use Rattle.field.specs.FilterCode.{Cursor}
use Rattle.field.proofs.Looking.{all_drop}
use Rattle.field.proofs.Cursors.{cursor-look}
use Rattle.rerecast.specs.PreFilter.{stand_of}
use Rattle.rerecast.proofs.ledges.look_around.Goals as goal

-- a drop that is seen from a cursor up is one of the column, and stays one when more columns are looked at
falls : {k : Contents} {nx : List ℕ} {m : ℕ} {whole : List Span} {r : ℕ} (c : Cursor k nx m whole r) (st : Stand) (v : View) (at : ℕ → List Span) (ks : List ℕ)
    → m ≤ st.top + st.height → (looked st v (map (span_at k) c.rest)).drop ≡ true → (foldl (λ v k. looked st v (at k)) (looked st v whole) ks).drop ≡ true
falls {k} c st v at ks l d = rw (c.enough st v l) (rw (all_drop st at (looked st v (map (span_at k) c.rest)) ks d) d)

pub returns-in_default : goal.returns-in_default
returns-in_default c areas at w i k =
    let st = stand_of c.args.st in
    falls k.0 st (outset st) at ((i + w) ∷ (i + 1) ∷ (i - w) ∷ []) (omega arith) (c.in_default.ensures areas k.0.rest k.0.chain)

pub returns-in_default-look : goal.returns-in_default-look
returns-in_default-look c areas at w i k =
    let st = stand_of c.args.st in
    let west = cursor-look k.0 st _ _ (omega arith) (c.in-Some.ensures areas k.0.rest k.0.chain) in
    rw (← west) (falls k.1.0 st _ at ((i + 1) ∷ (i - w) ∷ []) (omega arith) (c.in_default-look.ensures areas k.1.0.rest k.1.0.chain))

pub returns-in_default-look-2 : goal.returns-in_default-look-2
returns-in_default-look-2 c areas at w i k =
    let st = stand_of c.args.st in
    let west = cursor-look k.0 st _ _ (omega arith) (c.in-Some.ensures areas k.0.rest k.0.chain) in
    let north = cursor-look k.1.0 st _ _ (omega arith) (c.in-Some-look.ensures areas k.1.0.rest k.1.0.chain) in
    rw (← west, ← north) (falls k.1.1.0 st _ at ((i - w) ∷ []) (omega arith) (c.in_default-look-2.ensures areas k.1.1.0.rest k.1.1.0.chain))
