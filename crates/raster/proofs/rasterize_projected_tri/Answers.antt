-- `raster::rasterize_projected_tri`: off the image, or the visits of its box on the screen.
use Rattle.std.proofs.Common.{rules}
use Rattle.cells.specs.Lent.{held}
use Rattle.pieces.specs.Answer.{piece_of}
use Rattle.raster.proofs.Painting.{untouched, box-visited}
use Rattle.raster.proofs.rasterize_projected_tri.Goals as goal

pub returns-then-not-meets_image-clause-stopped : goal.returns-then-not-meets_image-clause-stopped
returns-then-not-meets_image-clause-stopped c = let a = c.args in
    let size = a.layer.now.size in
    untouched a.n a.facing size.w size.h a.number (piece_of a.turned a.ndc) (held a.layer.now) (rw c.corners-corners.ensures at (c.meets_image.ensures.misses (search rules)))

pub returns-in_default-clause-stopped : goal.returns-in_default-clause-stopped
returns-in_default-clause-stopped c = let a = c.args in
    let size = a.layer.now.size in
    untouched a.n a.facing size.w size.h a.number (piece_of a.turned a.ndc) (held a.layer.now) (rw (c.screened-screen.ensures, c.corners-corners.ensures) at c.in_default.ensures)

pub returns-clause-stopped : goal.returns-clause-stopped
returns-clause-stopped c = let a = c.args in
    let size = a.layer.now.size in
    box-visited a.n a.facing size.w size.h a.number (piece_of a.turned a.ndc) (held a.layer.now) (rw c.corners-corners.ensures at c.screened-screen.ensures) c.in-Some.ensures c.of-side.ensures c.visit_box.ensures.visited
