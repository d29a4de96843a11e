-- `link_columns` meets its contract.
use mathlib.Core.Path.{refl, ap}
use mathlib.Core.List.{[], map}
use lib.ListN.{get_or}
use native.Mathlib.Numerals.{add-one}
use native.Mathlib.Omega.{arith}
use Rattle.field.specs.Compact.{Result, result_of, rows}
use Rattle.field.specs.Links.{passes, around, word_of}
use Rattle.field.proofs.Joining.{threading-start, threading-step, threading-end}
use Rattle.rerecast.specs.Lent.{compact_of}
use Rattle.rerecast.proofs.Compacting.{only-linked, same-compact}
use Rattle.rerecast.proofs.links.link_columns.Goals as goal

pub loop-column-init : goal.loop-column-init
loop-column-init c =
    ((refl, refl, refl, refl, refl), record { indices = refl; counts = refl; ys = refl; areas = refl; words = refl }, λ cs e S. threading-start _ _ S)

pub loop-column-preserved : goal.loop-column-preserved
loop-column-preserved c =
    let v = c.loop-column in
    let p = v.invariant in
    let g = c.requires in
    let linked = c.link_column-most.ensures.linked in
    let s = c.args in
    let words = map (word_of (passes s.tall s.climb) (around s.size.width s.size.height g.0 v.column)) (get_or g.0 v.column []) in
    let after = c.link_column-most.new.compact in
    let only = only-linked (compact_of s.compact.now) (compact_of v.compact) (compact_of after) (get_or v.compact.indices.now v.column 0) words p.1 (linked g.0 g.1 (rw (p.1.indices, p.1.counts, p.1.ys) (p.2 g.0 g.1 g.2).rows)).0 in (
      same-compact s.compact.now v.compact after p.0 c.link_column-most.ensures.same_compact,
      only,
      λ cs e S.
          let q = p.2 cs e S in
          let r = linked cs e (rw (p.1.indices, p.1.counts, p.1.ys) q.rows) in
          let all = rw p.1.indices at r.0 in
          let shown = rw (only.indices, only.counts, only.ys) at r.2 in
          rw (add-one v.column) (threading-step q (omega (arith, e, c.loop-column-test.true, c.columns-column-end.ensures)) (ap (λ (t : Result). t.rows.words) all) r.1 shown),
    )

pub returns-clause-linked : goal.returns-clause-linked
returns-clause-linked c =
    λ cs e S.
    let p = c.loop-column.invariant in
    let r = threading-end (p.2 cs e S) (omega (arith, e, c.loop-column-test.false, c.columns-column-end.ensures)) in
    (λ i. result_of (p.1.indices i) (p.1.counts i) (rows (p.1.ys i) (r.0 i) (p.1.areas i)), r.1)
