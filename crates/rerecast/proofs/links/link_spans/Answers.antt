-- `link_spans` meets its contract.
use Prim.Native.Nat.{◌+◌, ◌<◌, max}
use mathlib.Core.Path.{refl, sym, ap, ◌∙◌}
use mathlib.Core.List.{List, []}
use lib.ListN.{length, get_or, length-set}
use native.Mathlib.Numerals.{add-one}
use native.Mathlib.Omega.{arith}
use Rattle.compact_span.specs.Word.{height_of}
use Rattle.field.specs.Open.{Open}
use Rattle.field.specs.Compact.{result_of, rows}
use Rattle.field.specs.Links.{passes, around}
use Rattle.field.proofs.Opening.{nowhere}
use Rattle.field.proofs.Joining.{joining-step, joining-end, layer-is, shown-kept}
use Rattle.field.proofs.Sides.{word-height}
use Rattle.rerecast.specs.declared.sides.Side.{Side}
use Rattle.rerecast.proofs.Around.{sides-within, word-is, missed-is}
use Rattle.rerecast.proofs.LinkCursors.{left-on}
use Rattle.rerecast.proofs.links.link_spans.Goals as goal

pub bind-bound-requires-clause-within : goal.bind-bound-requires-clause-within
bind-bound-requires-clause-within c =
    let s = c.args in
    let p = c.loop-l.invariant in
    let g = c.requires.cells_there in
    let e = c.around_column-sides.ensures in (
      ap (λ (l : List Side). length l) e,
      rw p.1.ys (sides-within (shown-kept g.2 (p.2 g.0 g.1 g.2).heights p.1.words) s.size.width s.size.height s.column g.1 c.requires.on_grid e),
    )

pub bind-bound-requires-clause-left : goal.bind-bound-requires-clause-left
bind-bound-requires-clause-left c =
    let s = c.args in
    let v = c.loop-l in
    let p = v.invariant in
    let g = c.requires.cells_there in
    let ys = s.compact.now.ys.now in
    let here : s.column < length g.0 = omega (arith, c.requires.on_grid, g.1) in
    let up = g.2.climbs s.column here in
    let k = g.2.cell s.column here in
    let y = get_or ys (get_or s.compact.now.indices.now s.column 0 + v.l) 0 in
    rw p.1.ys (left-on s.tall s.climb y y ys s.compact.now.words.now v.compact.words.now (omega arith) (p.2 g.0 g.1 g.2).heights c.around_column-sides.result v.cursors
    (p.3 y (λ j h. up j v.l (omega arith) (omega (arith, c.loop-l-test.true, k.count)))))

pub loop-l-preserved : goal.loop-l-preserved
loop-l-preserved c =
    let g = c.requires.cells_there in
    let s = c.args in
    let v = c.loop-l in
    let p = v.invariant in
    let h = c.loop-l-test.true in
    let b = rw (c.height_in.ensures, p.1.ys) at c.bind-bound.ensures in (
      p.0,
      record { indices = p.1.indices; counts = p.1.counts; ys = p.1.ys; areas = p.1.areas; words = length-set v.compact.words.now _ _ ∙ p.1.words },
      λ cs e S.
          let S' = shown-kept S (p.2 cs e S).heights p.1.words in
          let k = S'.cell s.column (omega (arith, e, c.requires.on_grid)) in
          let o = get_or (get_or cs s.column []) v.l nowhere in
          let eo = layer-is k v.l (omega (arith, h, k.count)) in
          let es = c.around_column-sides.ensures in
          let l = c.requires.on_grid in
          let w = word-is S' s.size.width s.size.height s.column e l es s.tall s.climb o eo b.0 in
          let m = missed-is S' s.size.width s.size.height s.column e l es s.tall s.climb o eo b.1 in
          rw (add-one v.l)
          (joining-step (p.2 cs e S) (omega (arith, h, k.count)) (omega (arith, h, k.in_words)) w
          (ap height_of w ∙ word-height (passes s.tall s.climb) (around s.size.width s.size.height cs s.column) o refl ∙ sym (ap (λ (q : Open). q.height) eo))
          (c.max-most.ensures ∙ ap (max v.most) m)),
      λ y h.
          left-on s.tall s.climb _ y s.compact.now.ys.now v.compact.words.now s.compact.now.words.now (h v.l (omega arith)) (λ x. sym ((p.2 g.0 g.1 g.2).heights x))
          c.around_column-sides.result c.bind-bound.result.cursors b.2,
    )

pub returns-clause-linked : goal.returns-clause-linked
returns-clause-linked c =
    λ cs e S.
    let p = c.loop-l.invariant in
    let j = p.2 cs e S in
    let k = S.cell c.args.column (omega (arith, e, c.requires.on_grid)) in
    let r = joining-end j (omega (arith, c.loop-l-test.false, k.count)) in (
      λ i. result_of (p.1.indices i) (p.1.counts i) (rows (p.1.ys i) (r.0 i) (p.1.areas i)),
      r.1,
      rw (p.1.indices, p.1.counts, p.1.ys) (shown-kept S j.heights p.1.words),
    )
