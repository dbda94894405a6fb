-- `scan::visit_box`: one column more at each turn, as long as visits are left.
use Rattle.std.specs.Prelude.{◌*◌}
use Rattle.cells.specs.Lent.{held, SameBuffers}
use Rattle.blocks.specs.Brush.{brush_cells}
use Rattle.scan.proofs.Columns.{Stopping}
use Rattle.scan.proofs.visit_box.Given as goal

abbrev pub invariant-loop-x : goal.invariant-loop-x
invariant-loop-x l = let size = l.initial.layer.size in
    SameBuffers l.initial.layer l.layer × Stopping (brush_cells l.b size.w) size.w (size.w * size.h) l.area l.n (held l.initial.layer) (held l.layer) l.x l.left
