-- The two counts are the grid's width and height, and what is tested of them is the definition's test.
use Rattle.std.proofs.Common.{◌≡◌, ℕ, ◌*◌, ◌<◌, ◌≤◌, false, [], ◌∷◌, ◌∙◌, sym, ap, refl}
use Rattle.std.specs.Prelude.{Float, None}
use Rattle.std.proofs.lemmas.Result.{err_from_is_err_and}
use Rattle.replies.specs.Said.{whole, real, say}
use Rattle.grid.specs.declared.Grid.{Grid}
use Rattle.grid.specs.declared.GridError.TheVariants.{GridSize}
use Rattle.grid.specs.Grid.{cells, width, height, width_float, height_float, sized, size_says}
use Rattle.grid.proofs.Cells.{width-le, height-le, product-fits, is_size, too-many, no_width, no_height}
use Rattle.grid.proofs.size.Goals as goal

module _ (g : Grid) where
  is_width : (n : ℕ) (w : Float) → n ≡ cells w → w ≡ width_float g → n ≡ width g
  unfolding width
  is_width n w e f = e ∙ ap cells f

  is_height : (n : ℕ) (h : Float) → n ≡ cells h → h ≡ height_float g → n ≡ height g
  unfolding height
  is_height n h e f = e ∙ ap cells f

  accepted : (w h : ℕ) → w ≡ width g → h ≡ height g → 0 < w → 0 < h → w * h ≤ 1048576 → say 0 (whole w ∷ whole h ∷ []) ≡ size_says g
  unfolding size_says
  accepted w h e f a b c = rw (← e, ← f, is_size w h a b c) refl

  refused : (w h : Float) → w ≡ width_float g → h ≡ height_float g → sized g ≡ false → say 3 (real w ∷ real h ∷ []) ≡ size_says g
  unfolding size_says
  refused w h e f s = rw (e, f, s) refl

pub returns-in_err-width : goal.returns-in_err-width
returns-in_err-width c =
    let g = c.args.g in
    let none : c.cell_count.result ≡ None = c.in_err-width.ensures.ok_part in
    let as_said : c.in_err-width.field-0.0 ≡ GridSize c.side_length-w.result c.side_length-h.result = cc (rw none at c.in_err-width.ensures.value) in
    let p = err_from_is_err_and c.from_residual.result c.from_residual.ensures.1 in
    rw (p.1, p.2, as_said)
    (refused g _ _ c.side_length-w.ensures c.side_length-h.ensures
    (no_width _ _ (sym (is_width g 0 _ (sym (rw none at c.cell_count.ensures)) c.side_length-w.ensures))))

pub returns-in_err-height : goal.returns-in_err-height
returns-in_err-height c =
    let g = c.args.g in
    let none : c.cell_count-2.result ≡ None = c.in_err-height.ensures.ok_part in
    let as_said : c.in_err-height.field-0.0 ≡ GridSize c.side_length-w.result c.side_length-h.result = cc (rw none at c.in_err-height.ensures.value) in
    let p = err_from_is_err_and c.from_residual-in_err-height.result c.from_residual-in_err-height.ensures.1 in
    rw (p.1, p.2, as_said)
    (refused g _ _ c.side_length-w.ensures c.side_length-h.ensures
    (no_height _ _ (sym (is_height g 0 _ (sym (rw none at c.cell_count-2.ensures)) c.side_length-h.ensures))))

pub overflow_mul-width : goal.overflow_mul-width
overflow_mul-width c =
    let g = c.args.g in
    let w = rw c.in_ok-width.ensures.ok_part at c.cell_count.ensures in
    let h = rw c.in_ok-height.ensures.ok_part at c.cell_count-2.ensures in
    record {
      fits = rw (is_width g _ _ w.0 c.side_length-w.ensures, is_height g _ _ h.0 c.side_length-h.ensures)
          (product-fits _ _ (width-le g) (height-le g));
    }

pub returns-then-width-height-gt1048576 : goal.returns-then-width-height-gt1048576
returns-then-width-height-gt1048576 c =
    let g = c.args.g in
    let w = rw c.in_ok-width.ensures.ok_part at c.cell_count.ensures in
    let h = rw c.in_ok-height.ensures.ok_part at c.cell_count-2.ensures in
    refused g _ _ c.side_length-w.ensures c.side_length-h.ensures
    (rw (← (is_width g _ _ w.0 c.side_length-w.ensures), ← (is_height g _ _ h.0 c.side_length-h.ensures))
    (too-many _ _ w.1 h.1 c.if-width-height-gt1048576.true))

pub returns : goal.returns
returns c =
    let g = c.args.g in
    let w = rw c.in_ok-width.ensures.ok_part at c.cell_count.ensures in
    let h = rw c.in_ok-height.ensures.ok_part at c.cell_count-2.ensures in
    accepted g _ _ (is_width g _ _ w.0 c.side_length-w.ensures) (is_height g _ _ h.0 c.side_length-h.ensures)
    w.1 h.1 c.if-width-height-gt1048576.false
