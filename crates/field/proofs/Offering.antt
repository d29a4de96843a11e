-- A span offered to a sound field: what an insertion into its first heads leaves, in terms of the whole store.
use mathlib.Core.Path.{◌≡◌, refl, sym, subst, ◌∙◌}
use mathlib.Core.Logic.{inl, inr}
use mathlib.Core.Bool.{Bool, true, false}
use mathlib.Core.List.{List, [], ◌++◌, append-nil}
use Prim.Native.Nat.{ℕ, ◌+◌, ◌*◌, ◌<◌, ◌≤◌}
use native.Mathlib.Omega.{arith}
use lib.ListN.{length, take, drop, replicate, take-append-drop}
use lib.Seq.{length-take-le, take_at, drop_at}
use Rattle.replies.specs.Said.{just}
use Rattle.grid.proofs.Places.{cell_below}
use Rattle.field.specs.declared.Span.{Span}
use Rattle.field.specs.Slots.{Slots}
use Rattle.field.specs.Field.{Field, Holds, Held, insert}
use Rattle.field.specs.Store.{store, left}
use Rattle.field.specs.Calls.{Offers}
use Rattle.field.proofs.Basics.{true-false}
use Rattle.field.proofs.Refusal.{refused-field}
use Rattle.field.proofs.Unique.{store-fixed}

module _ (w h x z : ℕ) (new : Span) (th : ℕ) (heads : List ℕ) (t : Slots) (marks : List ℕ) (enough : w * h ≤ length heads) (xw : x < w) (zh : z < h) {n : ℕ} (en : n ≡ w * h) {col : ℕ} (ec : col ≡ x + z * w) where
  first-long : length (take n heads) ≡ w * h
  first-long = length-take-le n heads (omega arith) ∙ en

  module _ (order : new.floor ≤ new.ceiling) (held : Held (take (w * h) heads) t) (part : List ℕ) (t' : Slots) (size : length part ≡ length (take n heads)) where
    -- what the insertion answers and leaves, at the code's own names for the column and the first heads, with any others behind them
    abbrev pub Answers : Bool → Type 0
    Answers b =
        (others : List ℕ) (f : Field) → Holds (take n heads ++ others) t f → ((insert th f col new).accepted ≡ b) × Holds (part ++ others) t' (insert th f col new).field

    -- so for the field that the first heads hold
    answered : {b : Bool} → Answers b → ((insert th held.0 (x + z * w) new).accepted ≡ b) × Holds part t' (insert th held.0 (x + z * w) new).field
    answered S =
        let k = S [] held.0 (rw (append-nil (take n heads), en) held.1) in
        (rw ec at k.0, rw (append-nil, ec) at k.1)

    pub offer-accepted : Answers true → Offers w h x z new th (store heads t marks) (left (just 0) (store (part ++ drop n heads) t' (replicate (length t.nexts) 0)))
    offer-accepted S =
        let f = held.0 in
        let H = held.1 in
        let k = answered S in
        inr (
          (xw, zh),
          inr (
            order,
            (
              f,
              H,
              inr (
                k.0,
                record {
                  says = refl;
                  holds = rw (take_at part (drop n heads) (w * h) (size ∙ first-long)) k.1;
                  beyond = rw (en, drop_at part (drop (w * h) heads) (w * h) (size ∙ first-long));
                  marks = refl;
                },
              ),
            ),
          ),
        )

    pub offer-refused : Answers false → Offers w h x z new th (store heads t marks) (left (just 5) (store (part ++ drop n heads) t' (replicate (length t.nexts) 0)))
    offer-refused S =
        let f = held.0 in
        let H = held.1 in
        let k = answered S in
        let l : x + z * w < length (take (w * h) heads) = omega (arith, length-take-le (w * h) heads enough, cell_below x z w h xw zh) in
        let same : (insert th f (x + z * w) new).field ≡ f = refused-field H (x + z * w) l new th order k.0 in
        let fixed = store-fixed (subst (λ (g : Field). Holds part t' g) same k.1) H in
        let whole : part ++ drop n heads ≡ heads = rw (fixed.0, en) (take-append-drop (w * h) heads) in
        inr ((xw, zh), inr (order, (f, H, inl (λ e. true-false (sym e ∙ k.0), λ i. left (just 5) (store (whole i) (fixed.1 i) (replicate (length t.nexts) 0))))))
