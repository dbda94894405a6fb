-- `removal::draw_full`: cleared, and drawn.
use Rattle.sequences.proofs.Whole.{drawn-fresh}
use Rattle.removal.proofs.draw_full.Goals as goal

pub returns-clause-drawn : goal.returns-clause-drawn
returns-clause-drawn c = let s = c.clear.ensures.same in drawn-fresh _ _ 0 c.clear.ensures.clear (rw (← s.width, ← s.height) at c.draw_faces.ensures.drawn)
