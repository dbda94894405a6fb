-- The pixels before the next are filled.
use Rattle.std.proofs.Common.{◌≡◌}
use Rattle.lists.specs.Lists.{filled}
use Rattle.labels.specs.Strips.{shown_at}
use Rattle.labels.proofs.label_each.Given as goal

abbrev pub invariant-loop-i : goal.invariant-loop-i
invariant-loop-i l = l.pix2body ≡ filled (shown_at l.tri2body l.pix2tri) l.p l.i l.initial.pix2body
