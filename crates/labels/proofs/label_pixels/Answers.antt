-- One strip more is filled at each turn, and then the pixels that are left.
use Rattle.std.proofs.Common.{arith}
use Rattle.lists.specs.Laws.Filled.{filled_on}
use Rattle.labels.proofs.Filling.{labelled_all}
use Rattle.labels.proofs.label_pixels.Goals as goal

pub loop-s-preserved : goal.loop-s-preserved
loop-s-preserved c = filled_on _ _ _ _ _ _ _ c.loop-s.invariant c.label_strip.ensures (omega arith)

pub returns : goal.returns
returns c = labelled_all _ _ _ _ _ _ c.requires.lent c.loop-s.auto.s-end c.loop-s-test.false c.loop-s.invariant c.label_each.ensures
