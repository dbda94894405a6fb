use borrow.Author.Count.{below_more}
use Rattle.pixel_unwraps.proofs.all_weigh_or_inner.Goals as goal

pub loop-y-preserved : goal.loop-y-preserved
loop-y-preserved c = below_more _ _ c.loop-y.invariant (c.row_weighs_or_inner.ensures c.if-not-row_weighs_or_inner.false)
