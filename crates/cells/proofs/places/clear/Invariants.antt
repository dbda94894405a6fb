-- `places::clear`: the pixels below i are clear.
use Rattle.cells.specs.Cell.{clear}
use Rattle.cells.specs.Layer.{layer}
use Rattle.cells.proofs.Laws.Pixels.{Turned}
use Rattle.cells.proofs.places.clear.Given as goal

abbrev pub invariant-loop-i : goal.invariant-loop-i
invariant-loop-i l = Turned (λ q c. clear) (layer l.initial.pix2tri l.initial.pix2depth l.initial.pix2weights) l.n l.i (layer l.pix2tri l.pix2depth l.pix2weights)
