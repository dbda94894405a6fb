use Rattle.unwraps.proofs.Cases.{unequal_unwraps}
use Rattle.unwraps.proofs.pair_ok.Goals as goal

pub returns-in-Some : goal.returns-in-Some
returns-in-Some c = rw (unequal_unwraps _ _ _ c.in-Some.ensures) c.unequal_ok.ensures
