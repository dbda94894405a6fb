-- `reach::is_first`: this one has reached the end, and the one before it has not.
use mathlib.Core.Path.{sym, ◌∙◌}
use Rattle.boxes.proofs.Reaching.{first_here}
use Rattle.boxes.proofs.reach.is_first.Goals as goal

pub returns-else-n-i : goal.returns-else-n-i
returns-else-n-i c = λ e.
    let a = c.args in
    first_here a.end 4096 a.n a.i c.requires.n_bound c.requires.i_le_n (c.before_reached.ensures c.if-not-before_reached.true) (sym c.has_reached.ensures ∙ e)
