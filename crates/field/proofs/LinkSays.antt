-- The promises about links, of whatever `into_compact` leaves behind with reply 0 or 12: no link is false, no link is missed, and each leads to the lowest
-- layer that it may. They start from `Compacted`, which is all that the call's contract says, and speak of the very entries of the lent slices.
use mathlib.Core.Path.{◌≡◌, sym, ap, subst, ◌∙◌}
use mathlib.Core.Logic.{◌≢◌, inl, inr}
use mathlib.Core.Bool.{Bool, true, false, cond}
use mathlib.Core.List.{List, [], ◌∷◌, map, flatten}
use Prim.Native.Nat.{ℕ, ◌+◌, ◌*◌, ◌<◌, ◌≤◌}
use native.Mathlib.Omega.{arith}
use lib.ListN.{length, get_or, take, get_or-map}
use lib.Seq.{length-take-le}
use Rattle.replies.specs.Said.{Said, just}
use Rattle.compact_span.specs.Word.{empty_mark}
use Rattle.grid.specs.declared.Grid.{Grid}
use Rattle.grid.specs.Grid.{Tested, numbers, first_outside, box_above, sized, width, height, columns, size_says, grid_says}
use Rattle.grid.proofs.Accepted.{accepted}
use Rattle.field.specs.Slots.{span_at}
use Rattle.field.specs.Field.{Field, spans, Holds}
use Rattle.field.specs.Store.{Store}
use Rattle.field.specs.Open.{opens, columns_of, cells}
use Rattle.field.specs.Links.{passes, largest_missed}
use Rattle.field.specs.Compact.{Result, Room, complete, Outcome, raised_top, complete_says, Compacted}
use Rattle.field.specs.Linked.{Floor, CanStep, Step, Done, Completed, link_from, Stored, Leads}
use Rattle.field.proofs.Basics.{by-test}
use Rattle.field.proofs.Unique.{field_fixed}
use Rattle.field.proofs.Opening.{columns-wide}
use Rattle.field.proofs.Floors.{open-floor}
use Rattle.field.proofs.LinkFacts.{counted, stored, leads, least, none-linked}

-- ---- replies 0 and 12 come with a complete result

-- the grid's tests say 3 at most
first_small : (ts : List Tested) (next : Said) → next.number ≤ 3 → (first_outside ts next).number ≤ 3
unfolding first_outside
first_small [] next l = l
first_small (t ∷ ts) next l = by-test t.inside (λ e. rw e (first_small ts next l)) (λ e. rw e (omega arith))

last-small : (a b : Bool) (s s' : Said) → s.number ≤ 3 → s'.number ≤ 3 → (cond a (just 2) (cond b s s')).number ≤ 3
last-small true b s s' l l' = omega arith
last-small false true s s' l l' = l
last-small false false s s' l l' = l'

grid-number : (g : Grid) → (grid_says g).number ≤ 3
unfolding grid_says size_says
grid-number g = first_small (numbers g) _ (last-small (box_above g) (sized g) _ _ (omega arith) (omega arith))

-- a complete result, and all that the call asked for before it made one
pub record Made (g : Grid) (tall climb : ℕ) (t : Result) (o : Outcome) (f : Field) : Type 0 where
  pub taken : (grid_says g).number ≡ 0
  pub wide : length (columns_of f) ≡ columns g
  pub indices : columns g ≤ length t.indices
  pub counts : columns g ≤ length t.counts
  pub room : Room (length (flatten (cells (columns_of f)))) t.rows
  pub made : o.result ≡ complete (passes tall climb) (width g) (height g) (columns_of f) t
  pub says : o.said ≡ complete_says (largest_missed (passes tall climb) (width g) (height g) (cells (columns_of f))) (raised_top g tall)

not_done : {o o' : Outcome} → o ≡ o' → o'.said.number ≢ 0 → o'.said.number ≢ 12 → Done o → ⊥
not_done e n m (inl d) = n (sym (ap (λ (o : Outcome). o.said.number) e) ∙ d)
not_done e n m (inr d) = m (sym (ap (λ (o : Outcome). o.said.number) e) ∙ d)

done-made : (g : Grid) (tall climb : ℕ) (s : Store) (t : Result) (o : Outcome) → Compacted g tall climb s t o → Done o → (f : Field) → Holds (take (columns g) s.heads) s.slots f → Made g tall climb t o f
done-made g tall climb s t o (inl e) d f H = absurd (not_done e.1 e.0 (λ n. omega (arith, grid-number g)) d)
done-made g tall climb s t o (inr (ok, inl e)) d f H = absurd (not_done e.1 (λ n. omega arith) (λ n. omega arith) d)
done-made g tall climb s t o (inr (ok, inr (fit, inl e))) d f H = absurd (not_done e.1 (λ n. omega arith) (λ n. omega arith) d)
done-made g tall climb s t o (inr (ok, inr (fit, inr (sound, (f', H', inl e))))) d f H = absurd (not_done e.1 (λ n. omega arith) (λ n. omega arith) d)
done-made g tall climb s t o (inr (ok, inr (fit, inr (sound, (f', H', inr (few, inl e)))))) d f H = absurd (not_done e.1 (λ n. omega arith) (λ n. omega arith) d)
done-made g tall climb s t o (inr (ok, inr (fit, inr (sound, (f', H', inr (few, inr (room, e))))))) d f H =
    let same : f' ≡ f = field_fixed H' H in
    record {
      taken = ok;
      wide = columns-wide H ∙ length-take-le (columns g) s.heads fit.fitting.fits.enough;
      indices = fit.indices;
      counts = fit.counts;
      room = subst (λ (f : Field). Room (length (flatten (cells (columns_of f)))) t.rows) same room;
      made = ap (λ (o : Outcome). o.result) e ∙ ap (λ (f : Field). complete (passes tall climb) (width g) (height g) (columns_of f) t) same;
      says = ap (λ (o : Outcome). o.said) e ∙ ap (λ (f : Field). complete_says (largest_missed (passes tall climb) (width g) (height g) (cells (columns_of f))) (raised_top g tall)) same;
    }

-- ---- the promises

module _ {g : Grid} {tall climb : ℕ} {s : Store} {t : Result} {o : Outcome} {f : Field} (call : Completed g tall climb s t o f) where
  pub made : Made g tall climb t o f
  made = done-made g tall climb s t o call.contract call.done f call.holds

  pub few : columns g ≤ 1048576
  few = (accepted g made.taken).columns-le

  pub indexed : length (columns_of f) ≤ length t.indices
  indexed = omega (arith, made.wide, made.indices)

  pub counts-fit : length (columns_of f) ≤ length t.counts
  counts-fit = omega (arith, made.wide, made.counts)

  pub column-is : (i : ℕ) → get_or (columns_of f) i [] ≡ spans f i
  column-is i = get_or-map (map (span_at f.contents)) f.columns i []

  -- What the cells count are floors: each layer below a cell's count is a floor of its column.
  pub each-counted-is-a-floor : (x z layer : ℕ) → x < width g → z < height g → layer < get_or o.result.counts (x + z * width g) 0 → Floor (spans f (x + z * width g)) layer
  each-counted-is-a-floor x z layer p q l =
      let e : get_or o.result.counts (x + z * width g) 0 ≡ length (opens (spans f (x + z * width g))) =
      ap (λ (r : Result). get_or r.counts (x + z * width g) 0) made.made
      ∙ counted tall climb (width g) (height g) (columns_of f) t made.wide few indexed counts-fit made.room (spans f) column-is x z p q
      in
      (open-floor (spans f (x + z * width g)) layer (omega arith)).floor

  -- from a floor of the column at x, z
  module _ (x z : ℕ) (p : x < width g) (q : z < height g) {layer : ℕ} (a : Floor (spans f (x + z * width g)) layer) where
    -- the link that is read from its entry, in direction `d`
    abbrev pub link_to : ℕ → ℕ
    link_to d = link_from o.result (x + z * width g) layer d

    -- Each floor has its entry: counted by its cell, with its y, the height of its open space, and its area.
    pub each-floor-is-stored : Stored o.result (x + z * width g) a
    each-floor-is-stored =
        subst (λ (r : Result). Stored r (x + z * width g) a) (sym made.made)
        (stored tall climb (width g) (height g) (columns_of f) t made.wide few indexed counts-fit made.room (spans f) column-is x z p q a)

    -- No false link: a link that is not empty leads to a floor of the column beside, which is on the grid, and an agent can step there.
    pub no-false-link : (d : ℕ) → d < 4 → link_to d ≢ empty_mark → Leads (width g) (height g) (spans f) o.result.counts tall climb x z d a (link_to d)
    no-false-link d l =
        subst (λ (r : Result). link_from r (x + z * width g) layer d ≢ empty_mark → Leads (width g) (height g) (spans f) r.counts tall climb x z d a (link_from r (x + z * width g) layer d)) (sym made.made)
        (leads tall climb (width g) (height g) (columns_of f) t made.wide few indexed counts-fit made.room (spans f) column-is x z p q a d l)

    -- No missed link: where an agent can step to a floor beside whose layer is at most 61, the link is not empty, and leads no higher. So it leads to the
    -- lowest such layer, for by the promise above it leads to one.
    pub no-missed-link : (d x' z' l : ℕ) → Step d x z x' z' → x' < width g → z' < height g → (b : Floor (spans f (x' + z' * width g)) l) → l ≤ 61 → CanStep tall climb a b → (link_to d ≢ empty_mark) × (link_to d ≤ l)
    no-missed-link d x' z' l s p' q' b low k =
        let e : link_to d ≤ l =
        subst (λ (r : Result). link_from r (x + z * width g) layer d ≤ l) (sym made.made)
        (least tall climb (width g) (height g) (columns_of f) t made.wide few indexed counts-fit made.room (spans f) column-is x z p q a d x' z' l s p' q' b low k)
        in
        (λ n. omega arith, e)

    -- For an agent 256 high or more there are no links at all.
    pub no-link-from-256-on : 256 ≤ tall → (d : ℕ) → d < 4 → link_to d ≡ empty_mark
    no-link-from-256-on h d l =
        subst (λ (r : Result). link_from r (x + z * width g) layer d ≡ empty_mark) (sym made.made)
        (none-linked tall climb (width g) (height g) (columns_of f) t made.wide few indexed counts-fit made.room (spans f) column-is x z p q a h d l)
