-- Of a mesh's triangles one after another, as the loop over them goes: the next triangle, a stop, and the end.
use mathlib.Core.Path.{◌≡◌, ap, subst, ◌∙◌}
use mathlib.Core.List.{List, [], ◌∷◌}
use Prim.Native.Nat.{ℕ, suc, ◌+◌, ◌-◌, ◌≤◌, ◌<◌}
use native.Mathlib.Numerals.{add-one}
use native.Mathlib.Omega.{arith}
use Rattle.replies.specs.Said.{whole, say, just}
use Rattle.clip.specs.Work.{stop}
use Rattle.field.specs.Slots.{Slots}
use Rattle.field.specs.Field.{Field, Holds}
use Rattle.field.specs.Carrying.{Carried, Meshed, placed, halted, says_of, leaves, Work, carry, onward, carry_mesh}
use Rattle.field.specs.Working.{Remains, MeshRemains}

module _ (width threshold : ℕ) (works : ℕ → Work) where
  -- a mesh that has only begun
  pub mesh-begins : (count : ℕ) {f : Field} {heads : List ℕ} {s : Slots} → Holds heads s f → MeshRemains width threshold works (carry_mesh width threshold works count 0 0 f) count 0 heads s
  mesh-begins count {f} H =
      let e : count - 0 ≡ count = omega arith in
      record { field = f; holds = H; comes = ap (λ (k : ℕ). carry_mesh width threshold works k 0 0 f) e }

  module _ {o : Meshed} {count t : ℕ} {heads : List ℕ} {s : Slots} (M : MeshRemains width threshold works o count t heads s) where
    abbrev pub came : Carried
    came = carry width threshold (works t).area 0 M.field (works t).events

    next : t < count → onward width threshold came t (λ g. carry_mesh width threshold works (count - (t + 1)) (suc t) 0 g) ≡ o
    unfolding carry_mesh
    next inside =
        let e : suc (count - (t + 1)) ≡ count - t = omega arith in
        ap (λ (k : ℕ). carry_mesh width threshold works k t 0 M.field) e ∙ M.comes

    module _ (inside : t < count) {m : ℕ} {heads' : List ℕ} {s' : Slots} where
      -- all of the triangle's work was done
      pub mesh-on : Remains width threshold (works t).area came m [] heads' s' → MeshRemains width threshold works o count (t + 1) heads' s'
      unfolding carry
      mesh-on R = record {
        field = R.field;
        holds = R.holds;
        comes =
            ap (λ (k : ℕ). carry_mesh width threshold works (count - (t + 1)) k 0 R.field) (add-one t)
            ∙ ap (λ (r : Carried). onward width threshold r t (λ g. carry_mesh width threshold works (count - (t + 1)) (suc t) 0 g)) R.comes
            ∙ next inside;
      }

      -- it stopped
      stops : {reply : ℕ} (R : Remains width threshold (works t).area came m (stop reply ∷ []) heads' s') → halted reply t m R.field ≡ o
      unfolding carry
      stops R = ap (λ (r : Carried). onward width threshold r t (λ g. carry_mesh width threshold works (count - (t + 1)) (suc t) 0 g)) R.comes ∙ next inside

      pub mesh-halts-says : {reply : ℕ} → Remains width threshold (works t).area came m (stop reply ∷ []) heads' s' → say reply (whole t ∷ whole m ∷ []) ≡ says_of o
      mesh-halts-says R = ap says_of (stops R)

      pub mesh-halts-holds : {reply : ℕ} → Remains width threshold (works t).area came m (stop reply ∷ []) heads' s' → Holds heads' s' (leaves o)
      mesh-halts-holds R = subst (λ (f : Field). Holds heads' s' f) (ap leaves (stops R)) R.holds

    -- no triangle is left
    ends : count ≤ t → placed M.field ≡ o
    unfolding carry_mesh
    ends over =
        let e : 0 ≡ count - t = omega arith in
        ap (λ (k : ℕ). carry_mesh width threshold works k t 0 M.field) e ∙ M.comes

    pub mesh-ends-says : count ≤ t → just 0 ≡ says_of o
    mesh-ends-says over = ap says_of (ends over)

    pub mesh-ends-holds : count ≤ t → Holds heads s (leaves o)
    mesh-ends-holds over = subst (λ (f : Field). Holds heads s f) (ap leaves (ends over)) M.holds
