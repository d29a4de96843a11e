-- Slots given back one after another, on the lent lists and on the field.
use mathlib.Core.Path.{◌≡◌, refl, ap, ◌∙◌}
use mathlib.Core.Logic.{◌≢◌}
use mathlib.Core.List.{List, [], ◌∷◌, foldl}
use Prim.Native.Nat.{ℕ, ◌+◌, ◌<◌, ◌≤◌}
use native.Mathlib.Omega.{arith}
use lib.ListN.{length, get_or, length-set}
use lib.Seq.{get_or-set_other}
use Rattle.field.specs.Slots.{none, Contents, span_at, put, zeros, Slots, Sized, Run, times}
use Rattle.field.specs.Field.{Field, release}
use Rattle.field.specs.Inner.{give_back}
use Rattle.field.proofs.Counting.{same_refl, same-eq, times-first}
use Rattle.field.proofs.Chains.{run-front}
use Rattle.field.proofs.Contents.{put_other, long-put, sized-long, long-sized}

pub sized-give : (t : Slots) (s : ℕ) → Sized t → Sized (give_back t s)
sized-give t s z = long-sized (rw length-set (long-put s zeros (sized-long z)))

-- what stands after the slots `ms` of no free chain were given back
pub record Given (t : Slots) (f : Field) (ms : List ℕ) (t' : Slots) (f' : Field) : Type 0 where
  pub columns : f'.columns ≡ f.columns
  pub contents : f'.contents ≡ t'.contents
  pub spare : Run t'.nexts t'.free f'.spare none
  pub count : (x : ℕ) → times x f'.spare ≡ times x ms + times x f.spare
  pub more : length f'.spare ≡ length ms + length f.spare
  pub next : (x : ℕ) → times x ms ≡ 0 → get_or t'.nexts x 0 ≡ get_or t.nexts x 0
  pub value : (x : ℕ) → times x ms ≡ 0 → span_at f'.contents x ≡ span_at f.contents x
  pub sized : Sized t'
  pub size : length t'.nexts ≡ length t.nexts

given-none : (t : Slots) (f : Field) → Sized t → f.contents ≡ t.contents → Run t.nexts t.free f.spare none → Given t f [] t f
given-none t f z e r =
    record {
      columns = refl;
      contents = e;
      spare = r;
      count = λ x. omega arith;
      more = omega arith;
      next = λ x q. refl;
      value = λ x q. refl;
      sized = z;
      size = refl;
    }

given-one : (t : Slots) (f : Field) (m : ℕ) (ms : List ℕ) (t' : Slots) (f' : Field) → Given (give_back t m) (release f m) ms t' f' → Given t f (m ∷ ms) t' f'
given-one t f m ms t' f' h =
    let away : (x : ℕ) → times x (m ∷ ms) ≡ 0 → x ≢ m = λ x q e. omega (arith, same-eq x m e) in
    record {
      columns = h.columns;
      contents = h.contents;
      spare = h.spare;
      count = λ x. omega (arith, h.count x);
      more = omega (arith, h.more);
      next = λ x q. h.next x (omega arith) ∙ get_or-set_other t.nexts m x t.free 0 (away x q);
      value = λ x q. h.value x (omega arith) ∙ put_other f.contents m zeros x (away x q);
      sized = h.sized;
      size = h.size ∙ length-set t.nexts m t.free;
    }

pub given : (t : Slots) (f : Field) (ms : List ℕ) → Sized t → f.contents ≡ t.contents → Run t.nexts t.free f.spare none → ((x : ℕ) → 0 < times x ms → x < length t.nexts) → ((x : ℕ) → times x ms + times x f.spare ≤ 1) → Given t f ms (foldl give_back t ms) (foldl release f ms)
given t f [] z e r in-range d = given-none t f z e r
given t f (m ∷ ms) z e r in-range d =
    let here : m < length t.nexts = in-range m (times-first m ms) in
    given-one t f m ms (foldl give_back (give_back t m) ms) (foldl release (release f m) ms)
    (given (give_back t m) (release f m) ms (sized-give t m z) (ap (λ (k : Contents). put k m zeros) e)
    (run-front t.nexts m t.free f.spare none here (omega (arith, d m, same_refl m)) r)
    (λ x p. rw length-set (in-range x (omega arith))) (λ x. omega (arith, d x)))
