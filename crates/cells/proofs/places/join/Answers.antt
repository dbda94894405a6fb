-- `places::join`: one pixel more is joined at each turn.
use Rattle.std.proofs.Common.{arith}
use Rattle.cells.proofs.Laws.Pixels.{turned_none, turned_more, turned_all}
use Rattle.cells.proofs.places.join.Goals as goal

pub loop-p-init : goal.loop-p-init
loop-p-init c = turned_none _ _ _ c.requires.left

pub loop-p-preserved : goal.loop-p-preserved
loop-p-preserved c = turned_more _ _ _ c.requires.left c.loop-p.p (omega (arith, c.loop-p-test.true)) c.loop-p.invariant c.join_pixel.ensures

pub returns : goal.returns
returns c = turned_all _ _ _ c.requires.left c.loop-p.p (omega (arith, c.loop-p-test.false)) c.loop-p.invariant
