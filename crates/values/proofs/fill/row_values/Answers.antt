use Rattle.std.proofs.Common.{◌≡◌, ◌+◌, ◌-◌, ◌*◌, refl, arith, zero-mul}
use Rattle.pixel_rays.specs.Laws.{ray_through}
use Rattle.vertex_values.specs.Laws.{run_there}
use Rattle.values.specs.Laws.{filled_none}
use Rattle.values.proofs.Values.{row_more}
use Rattle.values.proofs.fill.row_values.Goals as goal

pub loop-ix-init : goal.loop-ix-init
loop-ix-init c = rw zero-mul (filled_none _ _ _)

pub slice_bounds-fill_pixel-end : goal.slice_bounds-fill_pixel-end
slice_bounds-fill_pixel-end c = let k = run_there {k = c.args.pass.now.vertices.num_vdim} refl c.requires.whole c.number.ensures.bound in omega arith

pub loop-ix-preserved : goal.loop-ix-preserved
loop-ix-preserved c =
    let v = c.args.pass.now.view in
    let at = c.number.result * c.args.pass.now.vertices.num_vdim in
    let own : at + c.args.pass.now.vertices.num_vdim - at ≡ c.args.pass.now.vertices.num_vdim = omega arith in
    let ray = ray_through v.size.w v.size.h v.m.now c.args.iy c.loop-ix.ix c.loop-ix-test.true c.column_at-x.ensures c.row_at-y.ensures in
    row_more _ _ _ c.args.iy c.loop-ix.ix c.number.result _ c.number.ensures.number own c.face-shown.ensures.face ray c.loop-ix.pix2val _ c.fill_pixel.ensures _ (run_there refl c.requires.whole c.number.ensures.bound) c.loop-ix.invariant
