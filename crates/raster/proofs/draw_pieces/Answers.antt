-- `raster::draw_pieces`: none, one or two.
use Rattle.rules.specs.Piece.{two_pieces}
use Rattle.cells.specs.Lent.{held}
use Rattle.raster.proofs.Painting.{none_done, one_done, two_done}
use Rattle.raster.proofs.draw_pieces.Goals as goal

pub returns-in-Nothing-clause-painted : goal.returns-in-Nothing-clause-painted
returns-in-Nothing-clause-painted c = let a = c.args in
    let size = a.layer.now.size in
    rw c.in-Nothing.is (none_done a.facing size.w size.h a.number (held a.layer.now) a.layer.now.spans)

pub returns-in-Whole-clause-painted : goal.returns-in-Whole-clause-painted
returns-in-Whole-clause-painted c = let a = c.args in
    let size = a.layer.now.size in
    rw (c.in-Whole.is, ← c.whole.ensures) (one_done a.facing size.w size.h a.number (held a.layer.now) _ _ c.draw_piece.ensures.painted)

pub returns-in-One-clause-painted : goal.returns-in-One-clause-painted
returns-in-One-clause-painted c = let a = c.args in
    let size = a.layer.now.size in
    rw (c.in-One.is, ← c.one_piece.ensures) (one_done a.facing size.w size.h a.number (held a.layer.now) _ _ c.draw_piece-in-One.ensures.painted)

pub returns-in-Two-clause-painted : goal.returns-in-Two-clause-painted
unfolding two_pieces
returns-in-Two-clause-painted c = let a = c.args in
    let size = a.layer.now.size in
    let first = c.draw_piece-in-Two.ensures in
    rw (c.in-Two.is, ← c.first_piece-first.ensures, ← c.second_piece-second.ensures)
    (two_done a.facing size.w size.h a.number (held a.layer.now) _ _ _ _ first.painted (rw (← first.same.width, ← first.same.height) at c.draw_piece-in-Two-2.ensures.painted))
