-- `reach::settle_on`: the first that has reached the end.
use mathlib.Core.Path.{sym, ◌∙◌}
use Rattle.boxes.proofs.Reaching.{first_at}
use Rattle.boxes.proofs.reach.settle_on.Goals as goal

pub returns-then-has_reached : goal.returns-then-has_reached
returns-then-has_reached c = let a = c.args in
    first_at a.end a.n _ c.requires.n_bound c.loop-i.invariant (sym c.has_reached.ensures ∙ c.if-has_reached.true)
