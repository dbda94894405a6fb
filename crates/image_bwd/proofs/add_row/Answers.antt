use Rattle.std.proofs.Common.{ℕ, ◌*◌, refl, ap}
use Rattle.pixel_rays.specs.Laws.{ray_through}
use Rattle.vertex_values.specs.Laws.{run_there}
use Rattle.image_bwd.proofs.Kept.{same_none, same_then}
use Rattle.image_bwd.proofs.Laws.{over_none}
use Rattle.image_bwd.proofs.Turns.{pixel_turn}
use Rattle.image_bwd.proofs.add_row.Goals as goal

pub loop-ix-init : goal.loop-ix-init
loop-ix-init c = (same_none _, over_none _ _ _ _ _ _)

pub add_pixel-requires-clause-run : goal.add_pixel-requires-clause-run
add_pixel-requires-clause-run c =
    let same = c.loop-ix.invariant.0 in
    rw (← same.vertices, ← same.incoming) (run_there refl c.requires.incoming c.number.ensures.bound)

pub loop-ix-preserved : goal.loop-ix-preserved
loop-ix-preserved c =
    let v = c.args.view.now in
    let same = c.loop-ix.invariant.0 in
    let step = rw (← same.vertices, ← same.incoming) at c.add_pixel.ensures.added in
    let ray = ray_through v.size.w v.size.h v.m.now c.args.iy c.loop-ix.ix c.loop-ix-test.true c.column_at.ensures c.row_at-y.ensures in
    (same_then same c.add_pixel.ensures.same, pixel_turn _ _ _ _ _ c.loop-ix.ix _ c.loop-ix.invariant.1 c.face-shown.ensures.face ray (ap (λ (n : ℕ). n * c.args.sums.now.vertices.now.num_vdim) c.number.ensures.number) step)
