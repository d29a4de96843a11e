-- Along x a vertex's z counts for nothing: a polygon and the same polygon with 0 for every z have, but for z, the same parts, and a row or a cell makes the same of both.
use mathlib.Core.Path.{◌≡◌, refl, sym, ap, ◌∙◌}
use mathlib.Core.Bool.{Bool, true, false, ◌&&◌, cond}
use mathlib.Core.List.{List, [], ◌∷◌, map, map-append}
use Prim.Native.Nat.{ℕ, zero, suc, ◌-◌}
use lib.Dec.{leb}
use lib.IntN.{ℤ, pos, negsuc, suc_ℤ}
use lib.ListN.{length, length-map}
use lib.Ieee.{Float, le, lt}
use Rattle.grid.specs.declared.Corner.{Corner}
use Rattle.clip.specs.declared.cut.Axis.TheVariants.{X}
use Rattle.clip.specs.declared.frame.Frame.{Frame}
use Rattle.clip.specs.Cut.{nought, y_of, along, distance, crossing_of, agree, joining, to_first, to_second, onward, last_of, around, gives_first, gives_second, first_of, second_of, most_vertices, fitting, parts, eighth, cut_of}
use Rattle.clip.specs.Slices.{held_first, held_last}
use Rattle.clip.specs.Work.{Event, on_cut, slices, within, from_to, first_cell, last_cell, edge_at, cell_events, row_events}

-- a vertex with 0 for its z, and a polygon of such
abbrev pub flat : Corner → Corner
flat v = record { x = v.x; y = v.y; z = nought }

abbrev pub flatten : List Corner → List Corner
flatten vs = map flat vs

-- ---- coordinates

flat_map : (f : Corner → Float) → ((v : Corner) → f (flat v) ≡ f v) → (vs : List Corner) → map f (flatten vs) ≡ map f vs
flat_map f h [] = refl
flat_map f h (v ∷ vs) = cc (h v, flat_map f h vs)

flat-ys : (vs : List Corner) → map y_of (flatten vs) ≡ map y_of vs
flat-ys vs = flat_map y_of (λ v. refl) vs

length-flat : (vs : List Corner) → length (flatten vs) ≡ length vs
length-flat vs = length-map vs flat

-- ---- the cut along x

-- what a vertex gives to a part, by its tests
joining-flat : (joins : Bool) (v : Corner) → flatten (joining joins v) ≡ flatten (joining joins (flat v))
joining-flat true v = refl
joining-flat false v = refl

giving-flat : (p q r : Bool) (c c' a : Corner) → flat c ≡ flat c' → flatten (cond p (joining q a) (c ∷ joining r a)) ≡ flatten (cond p (joining q (flat a)) (c' ∷ joining r (flat a)))
giving-flat true q r c c' a e = joining-flat q a
giving-flat false q r c c' a e = cc (e, joining-flat r a)

crossing-flat : (b a : Corner) (db da : Float) → flat (crossing_of b a db da) ≡ flat (crossing_of (flat b) (flat a) db da)
unfolding crossing_of
crossing-flat b a db da = refl

-- the round, where what a vertex gives does not hang on z
module _ (gives : Corner → Corner → List Corner) (each : (b a : Corner) → flatten (gives b a) ≡ flatten (gives (flat b) (flat a))) where
  onward-flat : (b : Corner) (vs : List Corner) → flatten (onward gives b vs) ≡ flatten (onward gives (flat b) (flatten vs))
  unfolding onward
  onward-flat b [] = refl
  onward-flat b (a ∷ vs) =
      rw (map-append flat (gives b a) (onward gives a vs), map-append flat (gives (flat b) (flat a)) (onward gives (flat a) (flatten vs)), each b a, onward-flat a vs)

  last_flat : (v : Corner) (vs : List Corner) → last_of (flat v) (flatten vs) ≡ flat (last_of v vs)
  last_flat v [] = refl
  last_flat v (w ∷ ws) = last_flat w ws

  around-flat : (vs : List Corner) → flatten (around gives vs) ≡ flatten (around gives (flatten vs))
  unfolding around
  around-flat [] = refl
  around-flat (v ∷ vs) = rw (last_flat v vs) (onward-flat (last_of v vs) (v ∷ vs))

module _ (offset : Float) where
  first_flat : (vs : List Corner) → flatten (first_of X offset vs) ≡ flatten (first_of X offset (flatten vs))
  unfolding to_first
  first_flat vs =
      around-flat (gives_first X offset)
      (λ b a.
      let db = distance X offset b in
      let da = distance X offset a in
      giving-flat (agree db da) (le nought da) (lt nought da) (crossing_of b a db da) (crossing_of (flat b) (flat a) db da) a (crossing-flat b a db da))
      vs

  second-flat : (vs : List Corner) → flatten (second_of X offset vs) ≡ flatten (second_of X offset (flatten vs))
  unfolding to_second
  second-flat vs =
      around-flat (gives_second X offset)
      (λ b a.
      let db = distance X offset b in
      let da = distance X offset a in
      giving-flat (agree db da) (le da nought) (lt da nought) (crossing_of b a db da) (crossing_of (flat b) (flat a) db da) a (crossing-flat b a db da))
      vs

-- ---- rows and cells

-- work that does not hang on z
abbrev pub Blind : (List Corner → List Event) → Type 0
Blind gives = (vs : List Corner) → gives vs ≡ gives (flatten vs)

-- it makes the same of two polygons that differ in z alone
blind-to : (gives : List Corner → List Event) → Blind gives → (vs ws : List Corner) → flatten vs ≡ flatten ws → gives vs ≡ gives ws
blind-to gives blind vs ws e = blind vs ∙ ap gives e ∙ sym (blind ws)

cut-blind : (offset : Float) (near rest : List Corner → List Event) → Blind near → Blind rest → Blind (λ vs. on_cut (cut_of X offset vs) near rest)
unfolding cut_of
cut-blind offset near rest n r vs =
    let f = first_of X offset vs in
    let f' = first_of X offset (flatten vs) in
    let s = second_of X offset vs in
    let s' = second_of X offset (flatten vs) in
    let fits : fitting f ≡ fitting f' = ap (λ (m : ℕ). leb m most_vertices) (sym (length-flat f) ∙ ap length (first_flat offset vs) ∙ length-flat f') in
    let fits' : fitting s ≡ fitting s' = ap (λ (m : ℕ). leb m most_vertices) (sym (length-flat s) ∙ ap length (second-flat offset vs) ∙ length-flat s') in
    rw (fits, fits') (go (fitting f' && fitting s') f f' s s' (blind-to near n f f' (first_flat offset vs)) (blind-to rest r s s' (second-flat offset vs)))
  where
    go : (b : Bool) (f f' s s' : List Corner) → near f ≡ near f' → rest s ≡ rest s' → on_cut (cond b (parts f s) eighth) near rest ≡ on_cut (cond b (parts f' s') eighth) near rest
    go true f f' s s' p q = rw (p, q)
    go false f f' s s' p q = refl

pub slices-blind : (edge : ℤ → Float) (gives : ℤ → List Corner → List Event) → ((at : ℤ) → Blind (gives at)) → (count : ℕ) (at : ℤ) → Blind (slices X edge gives count at)
unfolding slices
slices-blind edge gives each zero at vs = refl
slices-blind edge gives each (suc count) at vs =
    cut-blind (edge at) (λ part. gives at part) (λ more. slices X edge gives count (suc_ℤ at) more) (each at) (slices-blind edge gives each count (suc_ℤ at)) vs

pub within-blind : (gives : ℕ → List Corner → List Event) → ((n : ℕ) → Blind (gives n)) → (at : ℤ) → Blind (within gives at)
within-blind gives each (negsuc n) vs = refl
within-blind gives each (pos n) vs = rw (length-flat vs, each n vs)

module _ (f : Frame) (z : ℕ) where
  pub cell-blind : (x : ℕ) → Blind (cell_events f z x)
  unfolding cell_events
  cell-blind x vs = rw (flat-ys vs)

  pub row-blind : Blind (row_events f z)
  unfolding row_events
  row-blind vs =
      let first = held_first (f.width - 1) (first_cell f X vs) in
      let last = held_last (f.width - 1) (last_cell f X vs) in
      rw (
        flat_map (along X) (λ v. refl) vs,
        slices-blind (λ at. edge_at f X at) (λ at part. within (cell_events f z) at part) (within-blind (cell_events f z) cell-blind) (from_to first last) first vs,
      )
