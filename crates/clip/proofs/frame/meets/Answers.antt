-- `clip::frame::meets` meets its contract.
use mathlib.Core.Path.{◌≡◌, sym, ◌∙◌}
use mathlib.Core.Bool.{true≢false}
use mathlib.Core.List.{map}
use Rattle.clip.specs.Cut.{x_of, y_of, z_of}
use Rattle.clip.specs.Work.{reaches_of, meets_of}
use Rattle.clip.proofs.frame.meets.Goals as goal
use Rattle.clip.proofs.frame.meets.Goals.{then-reaches, else-reaches}

pub returns-then-reaches-2 : goal.returns-then-reaches-2
unfolding meets_of
returns-then-reaches-2 c =
    let f = c.args.f in
    let vs = c.args.vs.now in
    let x : c.reaches.result ≡ reaches_of f.grid.min.x f.grid.max.x (map x_of vs) = c.reaches.ensures in
    let z : c.reaches-then-reaches-2.result ≡ reaches_of f.grid.min.z f.grid.max.z (map z_of vs) = c.reaches-then-reaches-2.ensures in
    elim c.if-reaches.branch [
      | then-reaches w ↦
          let y : w.reaches-then-reaches.result ≡ reaches_of f.grid.min.y f.grid.max.y (map y_of vs) = w.reaches-then-reaches.ensures in
          rw (← x, ← y, ← z, w.if-reaches.true, sym w.value-is ∙ c.if-reaches-2.true)
      | else-reaches w ↦ absurd (true≢false (sym c.if-reaches-2.true ∙ w.value-is ∙ w.if-reaches.false))
    ]

pub returns-else-reaches-2 : goal.returns-else-reaches-2
unfolding meets_of
returns-else-reaches-2 c =
    let f = c.args.f in
    let vs = c.args.vs.now in
    let x : c.reaches.result ≡ reaches_of f.grid.min.x f.grid.max.x (map x_of vs) = c.reaches.ensures in
    elim c.if-reaches.branch [
      | then-reaches w ↦
          let y : w.reaches-then-reaches.result ≡ reaches_of f.grid.min.y f.grid.max.y (map y_of vs) = w.reaches-then-reaches.ensures in
          rw (← x, ← y, w.if-reaches.true, sym w.value-is ∙ c.if-reaches-2.false, c.if-reaches-2.false)
      | else-reaches w ↦ rw (← x, w.if-reaches.false, c.if-reaches-2.false)
    ]
