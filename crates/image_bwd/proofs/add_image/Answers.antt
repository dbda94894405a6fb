use Rattle.std.proofs.Common.{zero-mul}
use Rattle.image_bwd.proofs.Kept.{same_none, same_then}
use Rattle.image_bwd.proofs.Laws.{over_none}
use Rattle.image_bwd.proofs.Turns.{row_turn}
use Rattle.image_bwd.proofs.add_image.Goals as goal

pub loop-iy-init : goal.loop-iy-init
loop-iy-init c = (same_none _, rw (zero-mul _) (over_none _ _ _ _ _ _))

pub loop-iy-preserved : goal.loop-iy-preserved
loop-iy-preserved c =
    let same = c.loop-iy.invariant.0 in
    let step = rw (← same.vertices, ← same.incoming) at c.add_row.ensures.added in
    (same_then same c.add_row.ensures.same, row_turn _ _ _ _ _ c.loop-iy.iy _ c.loop-iy.invariant.1 step)
