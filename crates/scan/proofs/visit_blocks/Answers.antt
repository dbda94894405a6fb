-- `scan::visit_blocks`: four rows more at each turn.
use Rattle.std.proofs.Common.{arith, ap}
use Rattle.geometry.specs.Vector.{Vec2}
use Rattle.std.specs.Prelude.{Float}
use Rattle.pixels.specs.Pixel.{centre_of}
use Rattle.cells.proofs.Laws.Kept.{same_none, same_then}
use Rattle.blocks.proofs.Centres.{on_4}
use Rattle.blocks.proofs.Going.{going_first, going_by}
use Rattle.scan.proofs.visit_blocks.Goals as goal

pub loop-y-init : goal.loop-y-init
unfolding centre_of
loop-y-init c = (
  same_none _,
  going_first _ _ _ _ _ _ _ c.requires.within.order c.args.layer.now.spans,
  ap (λ (q : Vec2 Float). q.x) c.centre_of-q.ensures,
  ap (λ (q : Vec2 Float). q.y) c.centre_of-q.ensures,
)

pub loop-y-preserved : goal.loop-y-preserved
loop-y-preserved c = let now = c.loop-y.invariant in
    let here = c.blocks_end-end.ensures c.loop-y.y c.loop-y-test.true in
    let s = now.0 in (
      same_then s c.visit_four.ensures.same,
      going_by _ _ _ _ _ _ _ c.requires.within.order _ _ c.loop-y.y _ (omega (arith, here.0)) (omega arith) now.1 (rw (← s.width) at c.visit_four.ensures.visited),
      now.2,
      on_4 c.loop-y.q.y c.loop-y.y now.3 (omega (arith, here.1, c.args.layer.now.size.sized.h_most)),
    )
