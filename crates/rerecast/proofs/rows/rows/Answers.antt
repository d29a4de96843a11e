-- `rows::rows` meets its contract.
use mathlib.Core.Path.{sym, ap}
use mathlib.Core.List.{List}
use Prim.Native.Nat.{ℕ, ◌+◌, ◌≤◌, ◌<◌}
use native.Mathlib.Omega.{arith}
use lib.ListN.{length}
use Rattle.std.specs.Prelude.{Ok}
use Rattle.std.proofs.Common.{rules}
use Rattle.std.proofs.lemmas.Result.{err_from_is_err_and}
use Rattle.grid.specs.declared.Corner.{Corner}
use Rattle.clip.specs.declared.cut.Axis.TheVariants.{Z}
use Rattle.clip.specs.declared.frame.Frame.{Frame}
use Rattle.clip.specs.Cut.{slice_cut}
use Rattle.clip.specs.Rest.{left}
use Rattle.clip.specs.Work.{edge_at, row_events}
use Rattle.field.specs.Working.{numbered, turns_to}
use Rattle.field.proofs.Carrying.{remains-as}
use Rattle.field.proofs.Slicing.{turns-turn, turns-end, turn-length}
use Rattle.field.proofs.Cells.{row-length}
use Rattle.rerecast.proofs.Rasterizing.{step-most, turn-went, turn_stopped}
use Rattle.rerecast.proofs.rows.rows.Goals as goal

-- a row has at most as many insertions as columns, and its own stop
row-most : (f : Frame) (z : ℕ) (part : List Corner) → 0 < f.width → f.width ≤ 4096 → length (row_events f z part) ≤ 4097
row-most f z part some wide = omega (arith, row-length f z part some)

pub row_at-requires-clause-held : goal.row_at-requires-clause-held
row_at-requires-clause-held c =
    let held = c.requires.held in
    let now = c.loop-k.invariant.2 held.0 held.1.0 held.1.1 in
    (held.0, (now.field, now.holds))

pub returns-in_err-count-clause-carries : goal.returns-in_err-count-clause-carries
returns-in_err-count-clause-carries c others f H =
    let p = err_from_is_err_and c.from_residual.result c.from_residual.ensures.1 in
    let v = c.loop-k in
    let a = c.args in
    let g = a.job.frame in
    let now = v.invariant.2 others f H in
    rw (p.1, p.2) (turn_stopped a.job _ _ (turns-turn Z (edge_at g Z) (row_events g) a.last v.k (left v.rests.triangle) v.invariant.0 (omega (arith, c.loop-k-test.true)))
    v.count now _ (c.in_err-count.ensures.carries others now.field now.holds))

pub loop-k-preserved : goal.loop-k-preserved
loop-k-preserved c =
    let v = c.loop-k in
    let a = c.args in
    let g = a.job.frame in
    let told = c.in_ok-count.ensures.carries in
    let held = c.requires.held in
    let now = v.invariant.2 held.0 held.1.0 held.1.1 in
    let few = turn-length 4097 (omega arith) (row_events g) (λ z part. row-most g z part c.requires.ready.0.sides.some-wide c.requires.ready.0.sides.wide) (slice_cut Z (edge_at g Z (numbered v.k)) (left v.rests.triangle)) v.k in
    let most = step-most a.job v.count now.field _ (Ok _) (told held.0 now.field now.holds) in
    let more = c.in_ok-count.ensures.cuts_off in (
      more.1,
      omega (arith, most, few, v.invariant.1),
      λ others f H.
          let at = v.invariant.2 others f H in
          remains-as g.width a.job.threshold a.job.area _
          (ap (λ (vs : List Corner). turns_to Z (edge_at g Z) (row_events g) a.last (v.k + 1) vs) (sym more.0))
          (turn-went a.job _ _ (turns-turn Z (edge_at g Z) (row_events g) a.last v.k (left v.rests.triangle) v.invariant.0 (omega (arith, c.loop-k-test.true)))
          v.count at _ (told others at.field at.holds)),
      search rules,
    )

pub returns-clause-carries : goal.returns-clause-carries
returns-clause-carries c others f H =
    let v = c.loop-k in
    let a = c.args in
    let g = a.job.frame in
    remains-as g.width a.job.threshold a.job.area v.count
    (turns-end Z (edge_at g Z) (row_events g) a.last v.k (left v.rests.triangle) (omega (arith, c.loop-k-test.false))) (v.invariant.2 others f H)
