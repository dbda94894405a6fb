use Rattle.std.proofs.Common.{arith, zero-mul}
use Rattle.values.specs.Interpolate.{interpolated}
use Rattle.values.specs.Laws.{filled_none}
use Rattle.values.proofs.Values.{rows_more, rows_all}
use Rattle.values.proofs.fill.image_values.Goals as goal

pub loop-iy-init : goal.loop-iy-init
loop-iy-init c = rw (zero-mul, zero-mul) (filled_none _ _ _)

pub loop-iy-preserved : goal.loop-iy-preserved
loop-iy-preserved c =
    rows_more _ c.args.pass.now.view.size.w c.args.pass.now.view.size.h c.args.pass.now.vertices.num_vdim c.loop-iy.iy c.args.pix2val.now _ c.requires _ (omega arith) c.loop-iy.invariant c.row_values.ensures

pub returns : goal.returns
unfolding interpolated
returns c = rows_all _ _ _ _ c.loop-iy.iy _ _ c.requires (omega arith) (omega arith) c.loop-iy.invariant
