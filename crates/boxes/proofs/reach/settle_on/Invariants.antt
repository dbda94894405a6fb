-- `reach::settle_on`: none before i has reached the end.
use Rattle.boxes.specs.Reach.{Settled}
use Rattle.boxes.proofs.reach.settle_on.Given as goal

abbrev pub invariant-loop-i : goal.invariant-loop-i
invariant-loop-i l = Settled l.end l.n l.i
