-- What stands after any calls from a fresh field on: a sound field, each column of which covers the spans accepted there.
use mathlib.Core.Path.{◌≡◌, refl, sym, ap, subst, ◌∙◌}
use mathlib.Core.Logic.{◌≢◌, inl, inr}
use mathlib.Core.Bool.{true}
use mathlib.Core.List.{List, [], ◌∷◌, ◌++◌, map}
use Prim.Native.Nat.{ℕ, ◌+◌, ◌*◌, ◌<◌, ◌≤◌}
use native.Mathlib.Omega.{arith}
use lib.ListN.{length, take, length-replicate, length-take}
use lib.Seq.{length-take-le}
use lib.Ieee.{Float}
use Rattle.replies.specs.Said.{Said, just, Asks}
use Rattle.grid.specs.declared.Grid.{Grid}
use Rattle.grid.specs.Grid.{width, height, columns, grid_says, coordinate_ok, coordinate, first_outside}
use Rattle.grid.proofs.Accepted.{accepted}
use Rattle.clip.specs.declared.frame.Frame.{Frame}
use Rattle.clip.specs.Work.{frame_of}
use Rattle.clip.proofs.Works.{triangle-proper}
use Rattle.grid.proofs.Places.{cell_below}
use Rattle.field.specs.declared.Span.{Span}
use Rattle.field.specs.Spans.{range}
use Rattle.field.specs.Slots.{Contents, Slots}
use Rattle.field.specs.Field.{Field, spans, ranges, Holds, fresh_field, insert}
use Rattle.field.specs.Store.{Store, Fits, Fitting, Sound, cleared, Outcome, left, Admits, Ends, Becomes}
use Rattle.field.specs.Calls.{Made, made, IsFresh, Freshened, Inserts, Offers}
use Rattle.field.specs.Beside.{beside}
use Rattle.field.specs.Filters.{Rule, filtered, raised, firm, roomed, low_obstacles, Filters, Filtered}
use Rattle.field.specs.Carrying.{Meshed, placed, halted, says_of, leaves}
use Rattle.field.specs.Meshes.{Mesh, corners_of, work_of, rasterized, Shaped, vertices_say, Builds, Takes, Given}
use Rattle.field.specs.Populate.{filtered_by, afterwards, populated}
use Rattle.field.specs.History.{Call, add_span, filter_low_obstacles, filter_ledges, filter_low_ceilings, rasterize_triangles, populate_from_trimesh, Does, Step, History, start, then, Begins, Placed, put_by_mesh, placed_by, in_column, accepted_in}
use Rattle.field.proofs.Basics.{by-test}
use Rattle.field.proofs.Stretching.{Covers}
use Rattle.field.proofs.Emptying.{fresh-covers}
use Rattle.field.proofs.Unique.{store-fixed, field_fixed}
use Rattle.field.proofs.Growing.{Grown, more, grows, filter-grows, mesh-grows}

-- where `A i` are the spans accepted in column i
pub record Standing (g : Grid) (A : ℕ → List Span) (s : Store) : Type 0 where
  pub grid : (grid_says g).number ≡ 0
  pub fits : Fitting (columns g) s
  pub field : Field
  pub holds : Holds (take (columns g) s.heads) s.slots field
  pub covers : (i : ℕ) → i < columns g → Covers (map range (A i)) (ranges field i)

pub first-long : {n : ℕ} {s : Store} → Fitting n s → length (take n s.heads) ≡ n
first-long {n} {s} F = length-take-le n s.heads F.fits.enough

-- ---- the start

fits-of : (n : ℕ) (heads : List ℕ) (t : Slots) (f : Field) → Holds (take n heads) t f → length f.columns ≡ n → 0 < length t.nexts → length t.nexts ≤ 1048576 → Fits n heads t
fits-of n heads t f H w some few =
    let e : length (take n heads) ≡ n = sym H.wide ∙ w in
    let m = length-take n heads in
    record {
      enough = omega arith;
      floors-fit = H.sized.floors;
      ceilings-fit = H.sized.ceilings;
      areas-fit = H.sized.areas;
      some = some;
      few = few;
    }

-- what an accepted call for a fresh field was given, and has left
record Accepted (g : Grid) (heads : List ℕ) (t : Slots) (o : Made) : Type 0 where
  grid : (grid_says g).number ≡ 0
  fits : Fits (columns g) heads t
  fresh : IsFresh (columns g) heads t o

accepted-fits : (g : Grid) (heads : List ℕ) (t : Slots) (o : Made) → o.said ≡ just 0 → (grid_says g).number ≡ 0 → Asks (Fits (columns g) heads t) (made (just 4) heads t) (IsFresh (columns g) heads t) o → Accepted g heads t o
accepted-fits g heads t o z e (inl a) =
    absurd (omega (arith, ap (λ (s : Said). s.number) (sym z ∙ ap (λ (m : Made). m.said) a.1)))
accepted-fits g heads t o z e (inr a) = record { grid = e; fits = a.0; fresh = a.1 }

accepted-fresh : (g : Grid) (heads : List ℕ) (t : Slots) (o : Made) → o.said ≡ just 0 → Freshened g heads t o → Accepted g heads t o
accepted-fresh g heads t o z (inl a) =
    absurd (a.0 (ap (λ (s : Said). s.number) (sym (ap (λ (m : Made). m.said) a.1) ∙ z)))
accepted-fresh g heads t o z (inr a) = accepted-fits g heads t o z a.0 a.1

pub begins-stands : (g : Grid) (s : Store) → Begins g s → Standing g (λ i. []) s
begins-stands g s b =
    let a = accepted-fresh g b.heads₀ b.slots₀ (made (just 0) s.heads s.slots) refl b.fresh in
    let N = length b.slots₀.nexts in
    let H = a.fresh.holds in
    let size : length s.slots.nexts ≡ N = fresh-size (columns g) N (take (columns g) s.heads) s.slots H in
    record {
      grid = a.grid;
      fits =
          record {
            fits = fits-of (columns g) s.heads s.slots (fresh_field (columns g) N) H (length-replicate (columns g) []) (omega (arith, a.fits.some)) (omega (arith, a.fits.few));
            marks-fit = b.marked;
          };
      field = fresh_field (columns g) N;
      holds = H;
      covers = λ i l. fresh-covers (columns g) N i l;
    }
  where
    fresh-size : (w N : ℕ) (heads : List ℕ) (t : Slots) → Holds heads t (fresh_field w N) → length t.nexts ≡ N
    fresh-size w N heads t H = sym H.sized.floors ∙ ap (λ (k : Contents). length k.floors) (sym H.contents) ∙ length-replicate N 0

-- ---- a call that leaves the field

pub cleared-stands : {g : Grid} {A : ℕ → List Span} {s : Store} → Standing g A s → Standing g A (cleared s)
cleared-stands {s = s} S =
    record {
      grid = S.grid;
      fits = record { fits = S.fits.fits; marks-fit = length-replicate (length s.slots.nexts) 0 };
      field = S.field;
      holds = S.holds;
      covers = S.covers;
    }

-- ---- a call that leaves another field, of as many columns and slots

ends-stands : {g : Grid} {A : ℕ → List Span} {s : Store} (S : Standing g A s) (B : ℕ → List Span) (said : Said) (f : Field) (o : Outcome) → Grown (columns g) (length s.slots.nexts) B f → Ends (columns g) s said f o → Standing g B o.store
ends-stands {g} {A} {s} S B said f o G b =
    let K = G.kept in
    let k = store-fixed K.holds b.holds in
    let size : length o.store.slots.nexts ≡ length s.slots.nexts = ap (λ (t : Slots). length t.nexts) (sym k.1) ∙ K.size in
    record {
      grid = S.grid;
      fits =
          record {
            fits = fits-of (columns g) o.store.heads o.store.slots f b.holds (K.holds.wide ∙ K.columns) (omega (arith, S.fits.fits.some)) (omega (arith, S.fits.fits.few));
            marks-fit = ap length b.marks ∙ length-replicate (length s.slots.nexts) 0 ∙ sym size;
          };
      field = f;
      holds = b.holds;
      covers = G.covers;
    }

-- ---- one span

-- the field by itself
grown : {g : Grid} {A : ℕ → List Span} {s : Store} (S : Standing g A s) → Grown (columns g) (length s.slots.nexts) A S.field
grown {g} {A} {s} S = record { kept = record { heads = take (columns g) s.heads; slots = s.slots; holds = S.holds; columns = first-long S.fits; size = refl }; covers = S.covers }

-- the accepted spans after a call that said so
abbrev after : Grid → Call → Said → (ℕ → List Span) → ℕ → List Span
after g call said A i = in_column i (placed_by g call said) ++ A i

module _ {g : Grid} {A : ℕ → List Span} {s : Store} (S : Standing g A s) (x z : ℕ) (new : Span) (th : ℕ) (o : Outcome) where
  -- a refusal places nothing and leaves the field
  refused : (said : Said) → placed_by g (add_span x z new th) said ≡ [] → o ≡ left said (cleared s) → Standing g (after g (add_span x z new th) o.said A) o.store
  refused said q e = rw e (subst (λ (ps : List Placed). Standing g (λ i. in_column i ps ++ A i) (cleared s)) (sym q) (cleared-stands S))

  inserts : x < width g → z < height g → new.floor ≤ new.ceiling → (f : Field) → f ≡ S.field → Asks ((insert th f (x + z * width g) new).accepted ≡ true) (left (just 5) (cleared s)) (Becomes (columns g) s (insert th f (x + z * width g) new).field) o → Standing g (after g (add_span x z new th) o.said A) o.store
  inserts xw zh order f e (inl a) = refused (just 5) refl a.1
  inserts xw zh order f e (inr a) =
      let c = x + z * width g in
      let yes : (insert th S.field c new).accepted ≡ true = rw e at a.0 in
      let b : Becomes (columns g) s (insert th S.field c new).field o = rw e at a.1 in
      subst (λ (d : Said). Standing g (after g (add_span x z new th) d A) o.store) (sym b.says)
      (ends-stands S (more c new A) (just 0) (insert th S.field c new).field o (grows (grown S) c (cell_below x z (width g) (height g) xw zh) new th order yes) b)

  ordered : x < width g → z < height g → Asks (new.floor ≤ new.ceiling) (left (just 9) (cleared s)) (Inserts (columns g) (x + z * width g) new th s) o → Standing g (after g (add_span x z new th) o.said A) o.store
  ordered xw zh (inl a) = refused (just 9) refl a.1
  ordered xw zh (inr a) = inserts xw zh a.0 a.1.0 (field_fixed a.1.1 S.holds) a.1.2

  inside : Offers (width g) (height g) x z new th s o → Standing g (after g (add_span x z new th) o.said A) o.store
  inside (inl a) = refused (just 8) refl a.1
  inside (inr a) = ordered a.0.0 a.0.1 a.1

-- a standing field is admitted
pub admitted : {O : Type 0} {g : Grid} {A : ℕ → List Span} {s : Store} → Standing g A s → (ends : Said → Store → O) (Fitted : Type 0) (next : O → Type 0) (o : O) → Fitted → Admits ends g Fitted s next o → next o
admitted S ends Fitted next o fitted (inl a) = absurd (a.0 S.grid)
admitted {g = g} {s = s} S ends Fitted next o fitted (inr a) = slices a.1
  where
    sound : Asks (Sound (columns g) s) (ends (just 14) (cleared s)) next o → next o
    sound (inl b) = absurd (b.0 (S.field, S.holds))
    sound (inr b) = b.1

    slices : Asks Fitted (ends (just 4) s) (Asks (Sound (columns g) s) (ends (just 14) (cleared s)) next) o → next o
    slices (inl b) = absurd (b.0 fitted)
    slices (inr b) = sound b.1

-- ---- a filter

-- it keeps the floors and ceilings, by whatever rule it goes for a field
filter-stands : {g : Grid} {A : ℕ → List Span} {s : Store} → Standing g A s → (rule : Field → Rule) (o : Outcome) → Filtered g (λ f. filtered (rule f) f) s o → Standing g A o.store
filter-stands {g} {A} {s} S rule o d =
    let k = admitted S left (Fitting (columns g) s) (Filters (columns g) (λ f. filtered (rule f) f) s) o S.fits d in
    let e = field_fixed k.1 S.holds in
    ends-stands S A (just 0) (filtered (rule S.field) S.field) o (filter-grows (rule S.field) (grown S)) (rw e at k.2)

-- ---- a mesh

-- a refusal of its vertex numbers puts in nothing
outside-puts : (g : Grid) (m : Mesh) (l : List Float) → (first_outside (map coordinate l) (just 0)).number ≢ 0 → put_by_mesh g m (first_outside (map coordinate l) (just 0)) ≡ []
unfolding first_outside
outside-puts g m [] d = absurd (d refl)
outside-puts g m (x ∷ l) d = by-test (coordinate_ok x) (λ e. rw e (outside-puts g m l (rw e at d))) (λ e. rw e refl)

-- whatever is made of the field, as long as it stands for what its reply says
module _ {g : Grid} {A : ℕ → List Span} {s : Store} (S : Standing g A s) (m : Mesh) (build : Field → Meshed) (o : Outcome)
    (built : let r = build S.field in Grown (columns g) (length s.slots.nexts) (λ i. in_column i (put_by_mesh g m (says_of r)) ++ A i) (leaves r)) where
  abbrev Stands : Said → Store → Type 0
  Stands said t = Standing g (λ i. in_column i (put_by_mesh g m said) ++ A i) t

  none-put : (said : Said) (t : Store) → put_by_mesh g m said ≡ [] → o ≡ left said t → Standing g A t → Stands o.said o.store
  none-put said t q e T = rw e (subst (λ (ps : List Placed). Standing g (λ i. in_column i ps ++ A i) t) (sym q) T)

  mesh-builds : Builds (columns g) build s o → Stands o.said o.store
  mesh-builds (f, H, E) =
      let r = build S.field in
      let E' : Ends (columns g) s (says_of r) (leaves r) o = rw (field_fixed H S.holds) at E in
      subst (λ (d : Said). Stands d o.store) (sym E'.says) (ends-stands S (λ i. in_column i (put_by_mesh g m (says_of r)) ++ A i) (says_of r) (leaves r) o built E')

  mesh-inside : Asks ((vertices_say m).number ≡ 0) (left (vertices_say m) (cleared s)) (Builds (columns g) build s) o → Stands o.said o.store
  mesh-inside (inl a) = none-put (vertices_say m) (cleared s) (outside-puts g m m.vertices a.0) a.1 (cleared-stands S)
  mesh-inside (inr a) = mesh-builds a.1

  mesh-takes : Takes (columns g) m build s o → Stands o.said o.store
  mesh-takes (inl a) = none-put (just 10) (cleared s) refl a.1 (cleared-stands S)
  mesh-takes (inr a) = mesh-inside a.1

  mesh-sound : Asks (Sound (columns g) s) (left (just 14) (cleared s)) (Takes (columns g) m build s) o → Stands o.said o.store
  mesh-sound (inl a) = absurd (a.0 (S.field, S.holds))
  mesh-sound (inr a) = mesh-takes a.1

  mesh-fits : Asks (Fitting (columns g) s × Shaped m) (left (just 4) s) (Asks (Sound (columns g) s) (left (just 14) (cleared s)) (Takes (columns g) m build s)) o → Stands o.said o.store
  mesh-fits (inl a) = none-put (just 4) s refl a.1 S
  mesh-fits (inr a) = mesh-sound a.1

  mesh-stands : Given g m build s o → Stands o.said o.store
  mesh-stands (inl a) = absurd (a.0 S.grid)
  mesh-stands (inr a) = mesh-fits a.1

module _ {g : Grid} {A : ℕ → List Span} {s : Store} (S : Standing g A s) (m : Mesh) (th : ℕ) where
  abbrev frame : Frame
  frame = frame_of g (width g) (height g)

  -- the mesh alone
  pub rasterized-grows : let r = rasterized frame m th S.field in Grown (columns g) (length s.slots.nexts) (λ i. in_column i (put_by_mesh g m (says_of r)) ++ A i) (leaves r)
  unfolding frame_of
  rasterized-grows =
      let a = accepted g S.grid in
      mesh-grows (width g) (height g) th (length s.slots.nexts) A (work_of frame m) (length m.areas)
      (λ t. triangle-proper frame a.wide a.high (corners_of m t)) (length m.areas) 0 S.field (omega arith) (grown S)

  -- and the filters after it
  populated-grows : (tall : ℕ) → let r = populated frame m tall th S.field in Grown (columns g) (length s.slots.nexts) (λ i. in_column i (put_by_mesh g m (says_of r)) ++ A i) (leaves r)
  unfolding frame_of
  populated-grows tall = go (rasterized frame m th S.field) rasterized-grows
    where
      go : (r : Meshed) → Grown (columns g) (length s.slots.nexts) (λ i. in_column i (put_by_mesh g m (says_of r)) ++ A i) (leaves r)
          → let r' = afterwards (filtered_by frame.width frame.height tall th) r in Grown (columns g) (length s.slots.nexts) (λ i. in_column i (put_by_mesh g m (says_of r')) ++ A i) (leaves r')
      go (placed f) G =
          let low = filter-grows (λ i below s above. raised th below s) G in
          let f₁ = low_obstacles th f in
          let firm = filter-grows (λ i below s above. firm tall th (spans f₁) (beside (width g) (height g) i) s above) low in
          filter-grows (λ i below s above. roomed tall s above) firm
      go (halted reply t made f) G = G

-- ---- any call, and any calls

does-stands : {g : Grid} {A : ℕ → List Span} {s : Store} → Standing g A s → (call : Call) (o : Outcome) → Does g call s o → Standing g (after g call o.said A) o.store
does-stands {g} {A} {s} S (add_span x z new th) o d = inside S x z new th o (admitted S left (Fitting (columns g) s) (Offers (width g) (height g) x z new th s) o S.fits d)
does-stands S (filter_low_obstacles climb) o d = filter-stands S (λ f i below s above. raised climb below s) o d
does-stands {g} S (filter_ledges tall climb) o d = filter-stands S (λ f i below s above. firm tall climb (spans f) (beside (width g) (height g) i) s above) o d
does-stands S (filter_low_ceilings tall) o d = filter-stands S (λ f i below s above. roomed tall s above) o d
does-stands {g} S (rasterize_triangles m th) o d = mesh-stands S m (rasterized (frame_of g (width g) (height g)) m th) o (rasterized-grows S m th) d
does-stands {g} S (populate_from_trimesh m tall climb) o d = mesh-stands S m (populated (frame_of g (width g) (height g)) m tall climb) o (populated-grows S m climb tall) d

pub history-stands : (g : Grid) (s : Store) → Begins g s → {steps : List Step} {t : Store} → History g s steps t → Standing g (λ i. accepted_in g i steps) t
history-stands g s b start = begins-stands g s b
history-stands g s b (then h call o d) = does-stands (history-stands g s b h) call o d
