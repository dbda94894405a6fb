use mathlib.Core.List.{flat_map}
use mathlib.Core.List as list
use Rattle.meshes.specs.Sums.{summed}
use Rattle.antialias_bwd.proofs.scatter_pair.Goals as goal

pub returns : goal.returns
unfolding flat_map
returns c = rw (← c.in-Some.ensures.met, list.append-nil) c.scatter_met.ensures

pub returns-in_default : goal.returns-in_default
unfolding flat_map summed
returns-in_default c = rw (← c.in_default.ensures.met) (λ i. c.args.sums.now)
