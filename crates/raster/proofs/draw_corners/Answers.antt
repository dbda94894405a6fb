-- `raster::draw_corners`: the face whole.
use Rattle.std.proofs.Common.{◌∙◌}
use Rattle.cells.specs.Lent.{held}
use Rattle.raster.proofs.Painting.{one_done, pieces-drawn}
use Rattle.raster.proofs.draw_corners.Goals as goal

pub returns-then-stays_whole-clause-painted : goal.returns-then-stays_whole-clause-painted
returns-then-stays_whole-clause-painted c = let a = c.args in
    let size = a.layer.now.size in
    pieces-drawn a.facing size.w size.h a.number (held a.layer.now) (one_done a.facing size.w size.h a.number (held a.layer.now) _ _ c.draw_piece.ensures.painted)
    (c.whole.ensures ∙ c.stays_whole.ensures c.if-stays_whole.true)
