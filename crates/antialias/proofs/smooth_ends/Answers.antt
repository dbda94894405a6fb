use Rattle.outline_views.specs.Outline.{edge_items}
use Rattle.antialias.specs.Smoothing.{written}
use Rattle.antialias.proofs.smooth_ends.Goals as goal

pub returns : goal.returns
unfolding edge_items
returns c = rw (← c.in-Some.ensures, ← c.trace.ensures.ends) c.smooth_edge.ensures

pub returns-in_default : goal.returns-in_default
unfolding edge_items written
returns-in_default c = rw (← c.in_default.ensures) (λ i. c.args.vout.now)
