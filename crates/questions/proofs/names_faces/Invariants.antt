-- What the greatest so far tells, and the entries that are left.
use Rattle.std.proofs.Common.{◌≡◌, ◌&&◌, leb, drop}
use Rattle.lists.specs.Lists.{every}
use Rattle.questions.specs.Questions.{names_face}
use Rattle.questions.proofs.names_faces.Given as goal

abbrev pub invariant-loop-entry : goal.invariant-loop-entry
invariant-loop-entry l = every (names_face l.count) l.pix2tri ≡ leb l.most l.count && every (names_face l.count) (drop l.entry-index l.pix2tri)
