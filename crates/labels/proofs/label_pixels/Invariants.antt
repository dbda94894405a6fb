-- The strips before the next are filled.
use Rattle.std.proofs.Common.{◌≡◌, ◌*◌}
use Rattle.lists.specs.Lists.{filled}
use Rattle.labels.specs.Strips.{strip, shown_at}
use Rattle.labels.proofs.label_pixels.Given as goal

abbrev pub invariant-loop-s : goal.invariant-loop-s
invariant-loop-s l = l.pix2body ≡ filled (shown_at l.tri2body l.pix2tri) 0 (l.s * strip) l.initial.pix2body
