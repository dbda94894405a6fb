-- `removal::draw_short`: cleared, and the kept faces drawn.
use Rattle.sequences.proofs.Whole.{drawn-fresh}
use Rattle.removal.proofs.draw_short.Goals as goal

pub returns-clause-drawn : goal.returns-clause-drawn
returns-clause-drawn c = let s = c.clear.ensures.same in drawn-fresh _ _ 0 c.clear.ensures.clear (rw (← s.width, ← s.height) at c.draw_kept_faces.ensures.drawn)
