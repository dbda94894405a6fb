-- `removal_counts::count_pixels`: one pixel more is compared at each turn.
use Rattle.removal_counts.proofs.Counting.{Compared}
use Rattle.removal_counts.proofs.count_pixels.Given as goal

abbrev pub invariant-loop-p : goal.invariant-loop-p
invariant-loop-p l = Compared l.removed l.full_pix2tri l.short_pix2tri l.p l.emptied l.renamed
