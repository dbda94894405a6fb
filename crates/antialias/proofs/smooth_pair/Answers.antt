use mathlib.Core.List.{flat_map}
use Rattle.antialias.specs.Smoothing.{written, writes}
use Rattle.antialias.proofs.smooth_pair.Goals as goal

pub returns : goal.returns
unfolding flat_map written writes
returns c = rw (← c.in-Some.ensures.met) c.smooth_met.ensures

pub returns-in_default : goal.returns-in_default
unfolding flat_map written writes
returns-in_default c = rw (← c.in_default.ensures.met) (λ i. c.args.vout.now)
