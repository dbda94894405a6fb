-- `reach::before_reached`: what the one before has not reached, none before has.
use mathlib.Core.Path.{sym, ◌∙◌}
use native.Mathlib.Omega.{arith}
use Rattle.boxes.proofs.Reaching.{settled_at}
use Rattle.boxes.proofs.reach.before_reached.Goals as goal

pub returns-then-i-gt0 : goal.returns-then-i-gt0
returns-then-i-gt0 c = λ e. let a = c.args in settled_at a.end 4096 a.i c.requires (omega arith) (omega arith) (sym c.has_reached.ensures ∙ e)
