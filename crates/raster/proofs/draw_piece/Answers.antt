-- `raster::draw_piece`: with enough visits the scan paints the piece.
use Rattle.std.proofs.Common.{arith, ◌∙◌}
use Rattle.cells.specs.Lent.{held}
use Rattle.pixels.specs.Laws.{area_below}
use Rattle.rules.proofs.Laws.Load.{piece_most}
use Rattle.rules.proofs.Laws.Visited.{stopped_all}
use Rattle.pieces.specs.Answer.{piece_of}
use Rattle.raster.proofs.draw_piece.Goals as goal

pub returns-clause-painted : goal.returns-clause-painted
returns-clause-painted c = let a = c.args in
    let size = a.layer.now.size in
    let enough = area_below size.sized.w_most size.sized.h_most in
    c.rasterize_projected_tri.ensures.stopped
    ∙ stopped_all _ a.facing size.w size.h (piece_of a.turned a.ndc) a.number (held a.layer.now) a.layer.now.spans (omega (arith, piece_most size.w size.h (piece_of a.turned a.ndc), enough))
