-- `places::clear`: one pixel more is clear at each turn.
use lib.Ieee.{of_bits}
use Rattle.std.proofs.Common.{arith}
use Rattle.cells.proofs.Laws.Pixels.{turned_none, turned_more, turned_all}
use Rattle.cells.proofs.places.clear.Goals as goal

pub loop-i-init : goal.loop-i-init
loop-i-init c = turned_none _ _ _ c.requires

pub loop-i-preserved : goal.loop-i-preserved
unfolding of_bits
loop-i-preserved c = turned_more _ _ _ c.requires c.loop-i.i (omega (arith, c.loop-i-test.true)) c.loop-i.invariant c.write.ensures

pub returns : goal.returns
returns c = turned_all _ _ _ c.requires c.loop-i.i (omega (arith, c.loop-i-test.false)) c.loop-i.invariant
