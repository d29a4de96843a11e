-- `heightfield::filter_all` meets its contract: each filter finds the sound field that the one before leaves.
use Rattle.rerecast.proofs.heightfield.filter_all.Goals as goal

pub lower_columns-requires : goal.lower_columns-requires
lower_columns-requires c = let H = c.requires.held in (_, c.clear_columns.ensures _ (c.raise_columns.ensures H.0 H.1))

pub returns : goal.returns
returns c f H = c.lower_columns.ensures _ (c.clear_columns.ensures _ (c.raise_columns.ensures f H))
