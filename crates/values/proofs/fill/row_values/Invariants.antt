use Rattle.std.proofs.Common.{◌≡◌, ◌*◌}
use Rattle.pixel_rays.specs.Answer.{image_of, shown}
use Rattle.vertex_values.specs.Answer.{vertices_of}
use Rattle.values.specs.Interpolate.{value_in}
use Rattle.values.specs.Filled.{filled}
use Rattle.values.proofs.fill.row_values.Given as goal

abbrev pub invariant-loop-ix : goal.invariant-loop-ix
invariant-loop-ix l = l.pix2val ≡ filled (value_in (image_of l.pass.view) (vertices_of l.pass.vertices) (shown l.pass.view)) (l.iy * l.pass.view.size.w * l.pass.vertices.num_vdim) (l.ix * l.pass.vertices.num_vdim) l.initial.pix2val
