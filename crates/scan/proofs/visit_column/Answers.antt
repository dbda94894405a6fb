-- `scan::visit_column`: blocks of four, and what is left beside the edge.
use Rattle.std.specs.Prelude.{◌*◌}
use Rattle.std.proofs.Common.{arith}
use Rattle.cells.specs.Lent.{held}
use Rattle.blocks.specs.Brush.{brush_cells}
use Rattle.blocks.proofs.Going.{going_of, going_rest, going_last}
use Rattle.scan.proofs.visit_column.Goals as goal

pub returns-then-left-y1-clause-visited : goal.returns-then-left-y1-clause-visited
returns-then-left-y1-clause-visited c = let a = c.args in
    let size = a.layer.now.size in
    let os = brush_cells a.b.now size.w in
    let order = c.requires.within.order in
    let done = c.visit_blocks-left in
    let s = done.ensures.same in
    let g = going_of os size.w (size.w * size.h) a.x a.y0 a.y1 (held a.layer.now) order a.layer.now.spans done.ensures.from done.ensures.visited in
    going_last os size.w (size.w * size.h) a.x a.y0 a.y1 (held a.layer.now) order _ a.y1 (omega arith)
    (going_rest os size.w (size.w * size.h) a.x a.y0 a.y1 (held a.layer.now) order _ _ done.result (omega (arith, c.if-left-y1.true)) g (rw (← s.width) at c.visit_rows.ensures.visited))

pub returns-else-left-y1-clause-visited : goal.returns-else-left-y1-clause-visited
returns-else-left-y1-clause-visited c = let a = c.args in
    let size = a.layer.now.size in
    let os = brush_cells a.b.now size.w in
    let order = c.requires.within.order in
    let done = c.visit_blocks-left in
    let g = going_of os size.w (size.w * size.h) a.x a.y0 a.y1 (held a.layer.now) order a.layer.now.spans done.ensures.from done.ensures.visited in
    going_last os size.w (size.w * size.h) a.x a.y0 a.y1 (held a.layer.now) order _ done.result (omega (arith, c.if-left-y1.false)) g
