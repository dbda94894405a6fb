use Rattle.std.proofs.Common.{◌≡◌, ◌*◌}
use Rattle.pixel_bwd.specs.Answer.{held, SameSums}
use Rattle.image_bwd.specs.Answer.{with_pixels}
use Rattle.image_bwd.proofs.add_row.Given as goal

abbrev pub invariant-loop-ix : goal.invariant-loop-ix
invariant-loop-ix l = let a = l.initial.sums in SameSums a l.sums × (held l.sums ≡ with_pixels l.view a (l.iy * l.view.size.w) l.ix (held a))
