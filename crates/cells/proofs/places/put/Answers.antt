-- `places::put`: a step that takes the cell.
use Rattle.std.proofs.Common.{◌∙◌}
use Rattle.cells.proofs.Laws.Put.{taken_step}
use Rattle.cells.proofs.places.put.Goals as goal

pub returns-then-pix2depth-p : goal.returns-then-pix2depth-p
returns-then-pix2depth-p c = c.write.ensures ∙ taken_step _ _ _ c.if-pix2depth-p.true
