-- The tests of the truncated side are those of `or_none`.
use Rattle.std.proofs.Common.{◌≡◌, ◌^◌, ◌<◌, ℤ, ◌∙◌, w32, to_z, of_z}
use lib.Signed.{mag}
use mir.ValLaws.{to_z-of_z}
use Rattle.grid.proofs.Cells.{counted, too_low, too-high}
use Rattle.grid.proofs.cell_count.Goals as goal
use Rattle.grid.proofs.cell_count.Goals.{else-n-ge1-via-then-n-ge1+else-n-le4096, else-n-ge1-via-else-n-ge1}

-- the integer of the tests is the truncated side
read : {z n : ℤ} → z ≡ n → mag z < 2 ^ 31 → to_z w32 (of_z w32 z) ≡ n
read {z} is ok = to_z-of_z w32 z (record { sfits = ok }) ∙ is

pub returns-then-n-le4096 : goal.returns-then-n-le4096
returns-then-n-le4096 c =
    let n = read c.truncate-n.ensures c.truncate-n.type_inv in
    rw n (counted _ (rw n at c.if-n-ge1.true) (rw n at c.if-n-le4096.true))

pub returns-else-n-ge1 : goal.returns-else-n-ge1
returns-else-n-ge1 c =
    let n = read c.truncate-n.ensures c.truncate-n.type_inv in
    elim c.else-n-ge1.branch [
      | else-n-ge1-via-then-n-ge1+else-n-le4096 w ↦ too-high _ (rw n at w.if-n-ge1.true) (rw n at w.if-n-le4096.false)
      | else-n-ge1-via-else-n-ge1 w ↦ too_low _ (rw n at w.if-n-ge1.false)
    ]
