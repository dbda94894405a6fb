-- The pixels before the next are filled.
use Rattle.std.proofs.Common.{◌≡◌}
use Rattle.lists.specs.Lists.{filled}
use Rattle.labels.proofs.fill_strip.Given as goal

abbrev pub invariant-loop-i : goal.invariant-loop-i
invariant-loop-i l = l.pix2body ≡ filled (λ q. l.body) l.p l.i l.initial.pix2body
