-- `Side::of`: facing by facing.
use mathlib.Core.Path.{refl}
use lib.Ieee.{of_bits}
use Rattle.lists.specs.Laws.Tests.{after_yes}
use Rattle.rules.specs.Scan.{counts}
use Rattle.lanes.specs.Answer.{within}
use Rattle.lanes.proofs.Sides.{above_lowest, below_greatest, and-true}
use Rattle.lanes.proofs.Side.of.Goals as goal

pub returns-in-All : goal.returns-in-All
unfolding within counts of_bits
returns-in-All c = λ s w. rw c.in-All.is (after_yes (above_lowest s w.is_finite) (below_greatest s w.is_finite))

pub returns-in-Front : goal.returns-in-Front
unfolding within counts of_bits
returns-in-Front c = λ s w. rw (c.in-Front.is, c.if-turned.true) (after_yes (above_lowest s w.is_finite) refl)

pub returns-in-Front-2 : goal.returns-in-Front-2
unfolding within counts of_bits
returns-in-Front-2 c = λ s w. rw (c.in-Front-2.is, c.if-turned.false) (and-true _ _ (below_greatest s w.is_finite))
