-- What a call leaves in slices that it passed on in a struct: each is what the struct holds of it at the end.
use Rattle.std.proofs.Common.{◌≡◌, ℕ, List}
use Rattle.field.specs.Slots.{slots}
use Rattle.field.specs.Compact.{result_of, rows}
use Rattle.rerecast.specs.declared.lent.Slots.{Slots}
use Rattle.rerecast.specs.declared.lent.Compact.{Compact}
use Rattle.rerecast.specs.Lent.{slots_of, compact_of}

abbrev pub GivenBack : Slots → ℕ → List ℕ → List ℕ → List ℕ → List ℕ → Type 0
GivenBack t free fl ce ar nx = (free ≡ t.free.now) × (fl ≡ t.floors.now) × (ce ≡ t.ceilings.now) × (ar ≡ t.areas.now) × (nx ≡ t.nexts.now)

pub given-back : (t : Slots) {free : ℕ} {fl ce ar nx : List ℕ} → GivenBack t free fl ce ar nx → slots free fl ce ar nx ≡ slots_of t
given-back t e = rw (e.0, e.1, e.2, e.3, e.4)

-- the same of a compact result
abbrev pub CompactBack : Compact → List ℕ → List ℕ → List ℕ → List ℕ → List ℕ → Type 0
CompactBack t ix sz ys ws ar = (ix ≡ t.indices.now) × (sz ≡ t.counts.now) × (ys ≡ t.ys.now) × (ws ≡ t.words.now) × (ar ≡ t.areas.now)

pub compact-back : (t : Compact) {ix sz ys ws ar : List ℕ} → CompactBack t ix sz ys ws ar → result_of ix sz (rows ys ws ar) ≡ compact_of t
compact-back t e = rw (e.0, e.1, e.2, e.3, e.4)
