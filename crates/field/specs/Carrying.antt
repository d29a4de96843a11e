-- Work carried out on a field: a triangle's insertions one after another, and the triangles of a mesh one after another, up to the first insertion that
-- finds no slot or to the stop that the work itself has (docs/RULES.md, "Numbered replies").
use Rattle.std.specs.Prelude.{cond, List, [], ◌∷◌, drop}
use Prim.Native.Nat.{ℕ, zero, suc, ◌+◌, ◌*◌}
use Rattle.replies.specs.Said.{Said, whole, say, just}
use Rattle.clip.specs.Work.{Event, insert as offer, stop}
use Rattle.field.specs.Field.{Field, insert}

-- How far a triangle's work went: all of it, or up to a stop, which has its reply's number. Then how many of the triangle's insertions were made, and
-- the field as they leave it.
pub data Carried : Type 0 where
  went : ℕ → Field → Carried
  stopped : ℕ → ℕ → Field → Carried

-- the same for a mesh, where a stop also has its triangle's number: the reply, the triangle, the insertions made
pub data Meshed : Type 0 where
  placed : Field → Meshed
  halted : ℕ → ℕ → ℕ → Field → Meshed

abbrev pub says_of : Meshed → Said
says_of (placed f) = just 0
says_of (halted reply t made f) = say reply (whole t ∷ whole made ∷ [])

abbrev pub leaves : Meshed → Field
leaves (placed f) = f
leaves (halted reply t made f) = f

-- a triangle's work: the area of its spans, and its events
pub record Work : Type 0 where
  pub area : ℕ
  pub events : List Event

-- on a grid that is `width` cells wide, with the threshold of all insertions
module _ (width threshold : ℕ) where
  -- The events that are left of a triangle's work, of which n insertions were made before.
  unfoldable pub carry : ℕ → ℕ → Field → List Event → Carried
  carry area n f [] = went n f
  carry area n f (stop reply ∷ es) = stopped reply n f
  carry area n f (offer x z floor ceiling ∷ es) =
      let r = insert threshold f (x + z * width) (record { floor = floor; ceiling = ceiling; area = area }) in
      cond r.accepted (carry area (n + 1) r.field es) (stopped 5 n f)

  -- a stop ends the mesh, and with all of a triangle's work done the next one begins
  abbrev pub onward : Carried → ℕ → (Field → Meshed) → Meshed
  onward (went n f) t next = next f
  onward (stopped reply n f) t next = halted reply t n f

  -- `count` triangles from number t on, of the first of which n insertions were made before: where a mesh begins both are 0
  unfoldable pub carry_mesh : (ℕ → Work) → ℕ → ℕ → ℕ → Field → Meshed
  unfolding carry
  carry_mesh works zero t n f = placed f
  carry_mesh works (suc count) t n f = onward (carry (works t).area n f (drop n (works t).events)) t (λ g. carry_mesh works count (suc t) 0 g)
