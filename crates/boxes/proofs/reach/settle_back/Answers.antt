-- `reach::settle_back`: what the one before has not reached, none before has.
use mathlib.Core.Path.{sym, ◌∙◌}
use native.Mathlib.Omega.{arith}
use Rattle.boxes.proofs.Reaching.{settled_next}
use Rattle.boxes.proofs.reach.settle_back.Goals as goal

pub returns-then-not-has_reached : goal.returns-then-not-has_reached
returns-then-not-has_reached c = let a = c.args in
    settled_next a.end a.from _ (omega arith) c.requires (sym c.has_reached.ensures ∙ c.if-not-has_reached.true)
