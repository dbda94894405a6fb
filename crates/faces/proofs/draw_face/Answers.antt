-- `faces::draw_face`: passed over, or its pieces drawn.
use Rattle.std.proofs.Common.{refl, ap, ◌∙◌}
use Rattle.geometry.specs.Answer.{projected_corners}
use Rattle.meshes.specs.Mesh.{project_face}
use Rattle.cells.specs.Lent.{held}
use Rattle.pieces.proofs.Faces.{none_projected, all_projected}
use Rattle.raster.proofs.Painting.{passed_over, pieces-drawn}
use Rattle.faces.proofs.draw_face.Goals as goal

pub returns-in_default-clause-painted : goal.returns-in_default-clause-painted
returns-in_default-clause-painted c = let a = c.args in
    let size = a.layer.now.size in
    passed_over a.facing size.w size.h a.number (held a.layer.now) a.layer.now.spans (none_projected _ _ _ size.w size.h a.facing (c.in_default.ensures ∙ ap (project_face _ _) c.face-f.ensures.face))

pub returns-clause-painted : goal.returns-clause-painted
returns-clause-painted c = let a = c.args in
    let size = a.layer.now.size in
    let scored = c.face_scored-t.ensures in
    pieces-drawn a.facing size.w size.h a.number (held a.layer.now) c.draw_corners.ensures.painted
    (all_projected _ _ _ size.w size.h a.facing (projected_corners c.in-Some.projected) (c.in-Some.ensures ∙ ap (project_face _ _) c.face-f.ensures.face) scored.first scored.second scored.third refl)
