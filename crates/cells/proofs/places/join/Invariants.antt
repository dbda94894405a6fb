-- `places::join`: the pixels below p are joined.
use Rattle.offers.specs.Offer.{pick}
use Rattle.cells.specs.Layer.{layer, at}
use Rattle.cells.specs.Lent.{lent}
use Rattle.cells.proofs.Laws.Pixels.{Turned}
use Rattle.cells.proofs.places.join.Given as goal

abbrev pub invariant-loop-p : goal.invariant-loop-p
invariant-loop-p l = Turned (λ q c. pick c (at (lent l.right) q)) (layer l.initial.pix2tri l.initial.pix2depth l.initial.pix2weights) l.n l.p (layer l.pix2tri l.pix2depth l.pix2weights)
