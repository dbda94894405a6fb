-- `faces::draw_faces`: one face less is left at each turn.
use Rattle.std.proofs.Common.{arith}
use Rattle.cells.proofs.Laws.Kept.{same_none, same_then}
use Rattle.faces.proofs.FaceList.{left_all, left_less, left_none}
use Rattle.faces.proofs.draw_faces.Goals as goal

pub loop-i-init : goal.loop-i-init
loop-i-init c = (same_none _, left_all _ _ _ _ c.args.layer.now.spans)

pub loop-i-preserved : goal.loop-i-preserved
loop-i-preserved c = let s = c.loop-i.invariant.0 in (
  same_then s c.draw_face.ensures.same,
  left_less _ _ _ _ _ _ c.loop-i.i (omega (arith, c.face_count-i-end.ensures, c.loop-i-test.true)) c.loop-i.invariant.1 (rw (← s.width, ← s.height) at c.draw_face.ensures.painted),
)

pub returns-clause-drawn : goal.returns-clause-drawn
returns-clause-drawn c = left_none _ _ _ _ _ c.loop-i.i (omega (arith, c.face_count-i-end.ensures, c.loop-i-test.false)) c.loop-i.invariant.1
