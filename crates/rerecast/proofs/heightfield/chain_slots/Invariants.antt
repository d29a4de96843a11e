-- The loop's invariant: each slot before `i` has the slot after it next.
use Rattle.std.proofs.Common.{◌≡◌, ℕ, ◌<◌, get_or, suc}
use Rattle.rerecast.proofs.heightfield.chain_slots.Given as goal

abbrev pub invariant-loop-i : goal.invariant-loop-i
invariant-loop-i l = (k : ℕ) → k < l.i → get_or l.nexts k 0 ≡ suc k
