-- One pixel more is compared at each turn.
use Rattle.lists.specs.Laws.Every.{gathered_next}
use Rattle.labels.proofs.all_show.Goals as goal

pub loop-i-preserved : goal.loop-i-preserved
loop-i-preserved c = gathered_next _ _ _ c.loop-i.invariant
