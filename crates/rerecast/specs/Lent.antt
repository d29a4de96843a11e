-- What the slices hold that the inner functions pass on together, as the model has it. No public contract cites this file.
use Rattle.std.specs.Prelude.{◌≡◌, List, ℕ, length}
use Rattle.field.specs.Slots.{Contents, contents, Slots, slots}
use Rattle.field.specs.Meshes.{Mesh, mesh}
use Rattle.field.specs.Compact.{Result, result_of, rows}
use Rattle.rerecast.specs.declared.lent.Slots as lent-slots
use Rattle.rerecast.specs.declared.lent.Mesh as lent-mesh
use Rattle.rerecast.specs.declared.lent.Columns.{Columns}
use Rattle.rerecast.specs.declared.lent.Compact.{Compact}

-- the slots that are lent to be changed
abbrev pub slots_of : lent-slots.Slots → Slots
slots_of s = slots s.free.now s.floors.now s.ceilings.now s.areas.now s.nexts.now

-- the slots of columns that are read, with the areas beside them
abbrev pub contents_in : Columns → List ℕ → Contents
contents_in c areas = contents c.floors.now c.ceilings.now areas

abbrev pub slots_in : Columns → List ℕ → Slots
slots_in c areas = slots c.free c.floors.now c.ceilings.now areas c.nexts.now

abbrev pub mesh_of : lent-mesh.Mesh → Mesh
mesh_of m = mesh m.vertices.now m.indices.now m.areas.now

abbrev pub compact_of : Compact → Result
compact_of c = result_of c.indices.now c.counts.now (rows c.ys.now c.words.now c.areas.now)

-- floors and ceilings for all slots
abbrev pub EvenSlots : Columns → Type 0
EvenSlots c = (length c.floors.now ≡ length c.nexts.now) × (length c.ceilings.now ≡ length c.nexts.now)

-- The struct holds the very slices afterwards that it held before, so that what was written is found in them.
abbrev pub SameSlots : lent-slots.Slots → lent-slots.Slots → Type 0
SameSlots s t =
    (t.free.ghost_name ≡ s.free.ghost_name)
    × (t.floors.ghost_name ≡ s.floors.ghost_name)
    × (t.ceilings.ghost_name ≡ s.ceilings.ghost_name)
    × (t.areas.ghost_name ≡ s.areas.ghost_name)
    × (t.nexts.ghost_name ≡ s.nexts.ghost_name)

abbrev pub SameCompact : Compact → Compact → Type 0
SameCompact s t =
    (t.indices.ghost_name ≡ s.indices.ghost_name)
    × (t.counts.ghost_name ≡ s.counts.ghost_name)
    × (t.ys.ghost_name ≡ s.ys.ghost_name)
    × (t.words.ghost_name ≡ s.words.ghost_name)
    × (t.areas.ghost_name ≡ s.areas.ghost_name)
