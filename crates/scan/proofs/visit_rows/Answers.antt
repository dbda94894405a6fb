-- `scan::visit_rows`: one row more at each turn.
use Rattle.cells.proofs.Laws.Kept.{same_none, same_then}
use Rattle.blocks.proofs.Going.{going_first, going_on, going_last}
use Rattle.scan.proofs.visit_rows.Goals as goal

pub loop-y-init : goal.loop-y-init
loop-y-init c = (same_none _, going_first _ _ _ _ _ _ _ c.requires.within.order c.args.layer.now.spans)

pub loop-y-preserved : goal.loop-y-preserved
loop-y-preserved c = let s = c.loop-y.invariant.0 in
    (same_then s c.visit.ensures.same, going_on _ _ _ _ _ _ _ c.requires.within.order _ _ c.loop-y.y c.loop-y-test.true c.loop-y.invariant.1 (rw (← s.width) at c.visit.ensures.visited))

pub returns-clause-visited : goal.returns-clause-visited
returns-clause-visited c = going_last _ _ _ _ _ _ _ c.requires.within.order _ c.loop-y.y c.loop-y-test.false c.loop-y.invariant.1
