-- The pixels before the next are compared.
use Rattle.std.proofs.Common.{◌≡◌}
use Rattle.labels.specs.Strips.{all_show}
use Rattle.labels.proofs.all_show.Given as goal

abbrev pub invariant-loop-i : goal.invariant-loop-i
invariant-loop-i l = l.all ≡ all_show l.pix2tri l.p l.i l.entry
