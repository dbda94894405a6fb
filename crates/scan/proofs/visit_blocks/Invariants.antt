-- `scan::visit_blocks`: four rows more at each turn.
use Rattle.std.specs.Prelude.{◌*◌, ◌-◌, ◌≡◌}
use Rattle.pixels.specs.Pixel.{centre}
use Rattle.cells.specs.Lent.{held, SameBuffers}
use Rattle.blocks.specs.Brush.{brush_cells}
use Rattle.blocks.proofs.Going.{Going}
use Rattle.scan.proofs.visit_blocks.Given as goal

abbrev pub invariant-loop-y : goal.invariant-loop-y
invariant-loop-y l = let size = l.initial.layer.size in
    SameBuffers l.initial.layer l.layer
    × Going (brush_cells l.b size.w) size.w (size.w * size.h) l.x l.y0 l.y1 (held l.initial.layer) (held l.layer) l.y
    × (l.q.x ≡ centre l.x)
    × (l.q.y ≡ centre l.y)

abbrev pub decreases-loop-y : goal.decreases-loop-y
decreases-loop-y l = l.end - l.y
