use Rattle.std.proofs.Common.{◌≡◌, ◌*◌}
use Rattle.pixel_bwd.specs.Answer.{held, SameSums}
use Rattle.image_bwd.specs.Answer.{with_pixels}
use Rattle.image_bwd.proofs.add_image.Given as goal

abbrev pub invariant-loop-iy : goal.invariant-loop-iy
invariant-loop-iy l = let a = l.initial.sums in SameSums a l.sums × (held l.sums ≡ with_pixels l.view a 0 (l.iy * l.view.size.w) (held a))
