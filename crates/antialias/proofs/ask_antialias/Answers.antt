use mathlib.Core.Bool.{and-true}
use Rattle.antialias.specs.Calls.{antialias_code}
use Rattle.antialias.proofs.ask_antialias.Goals as goal

pub returns-clause-code : goal.returns-clause-code
unfolding antialias_code
returns-clause-code c = rw and-true at c.ask.ensures.code
