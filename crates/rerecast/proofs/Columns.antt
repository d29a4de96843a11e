-- Where a walk up a column has come to: unless it has ended it is at a slot, and one slot on there is less left. A place on the grid is one of its columns.
use mathlib.Core.Path.{◌≡◌}
use mathlib.Core.Logic.{◌≢◌}
use mathlib.Core.List.{List}
use Prim.Native.Nat.{ℕ, ◌+◌, ◌*◌, ◌<◌, ◌≤◌}
use native.Mathlib.Omega.{arith}
use lib.ListN.{length, get_or}
use Rattle.grid.proofs.Places.{cell_below}
use Rattle.field.specs.Slots.{none}
use Rattle.field.specs.Inner.{Chain, slots_from}
use Rattle.field.proofs.Chains.{chain-cons, chain-less, chain-slot}

pub record Reached (nexts : List ℕ) (at : ℕ) : Type 0 where
  pub few : length nexts ≤ none
  pub slot : at ≢ none → at < length nexts
  pub next : at ≢ none → get_or nexts at 0 ≢ none → get_or nexts at 0 < length nexts
  pub less : at ≢ none → length (slots_from nexts (get_or nexts at 0)) < length (slots_from nexts at)

pub chain-reached : {nexts : List ℕ} {at : ℕ} (ss : List ℕ) → Chain nexts at ss → Reached nexts at
chain-reached ss c =
    record {
      few = c.few;
      slot = chain-slot ss c;
      next = λ n m. let k = chain-cons ss c n in chain-slot k.0 k.2 m;
      less = λ n. let k = chain-cons ss c n in chain-less ss k.0 c k.1 k.2;
    }

-- a place on the grid is one of its columns
pub column_below : {x z w h n : ℕ} → (x < w) × (z < h) × (w * h ≡ n) × (w * h ≤ 1048576) → x + z * w < n
column_below {x} {z} {w} {h} p = omega (arith, cell_below x z w h p.0 p.1, p.2)
