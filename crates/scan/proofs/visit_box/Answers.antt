-- `scan::visit_box`: one column more at each turn, as long as visits are left.
use Rattle.cells.proofs.Laws.Kept.{same_none, same_then}
use Rattle.scan.proofs.Columns.{stopping_first, stopping_next, all_columns}
use Rattle.scan.proofs.visit_box.Goals as goal

pub loop-x-init : goal.loop-x-init
loop-x-init c = (same_none _, stopping_first _ _ _ _ _ _ c.args.layer.now.spans c.requires.columns.order)

pub loop-x-preserved : goal.loop-x-preserved
loop-x-preserved c = let s = c.loop-x.invariant.0 in (
  same_then s c.visit_column.ensures.same,
  stopping_next _ _ _ _ _ _ _ _ c.loop-x.x c.loop-x.left c.min-some.result c.loop-x-test.true c.loop-x.invariant.1 c.min-some.ensures (rw (← s.width) at c.visit_column.ensures.visited),
)

pub returns-clause-visited : goal.returns-clause-visited
returns-clause-visited c = all_columns _ _ _ _ _ _ _ c.loop-x.x c.loop-x.left c.loop-x-test.false c.loop-x.invariant.1
