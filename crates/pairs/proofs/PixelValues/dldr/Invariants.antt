use Rattle.std.proofs.Common.{◌≡◌, ◌+◌, ◌*◌}
use Rattle.geometry.specs.Arith.{floats}
use Rattle.geometry.specs.Formula.{sum_of}
use Rattle.pairs.specs.Gradient.{channel_term}
use Rattle.pairs.proofs.PixelValues.dldr.Given as goal

abbrev pub invariant-loop-k : goal.invariant-loop-k
invariant-loop-k l = l.sum ≡ sum_of floats (λ k. channel_term l.self.dldw_pix2val.now l.self.pix2val.now (l.p * l.self.num_vdim + k) (l.q * l.self.num_vdim + k)) l.k
