-- `pieces::face_pieces`: the corners projected and scored, and their pieces.
use Rattle.std.proofs.Common.{ap, ◌∙◌}
use Rattle.geometry.specs.Answer.{projected_corners}
use Rattle.meshes.specs.Mesh.{project_face}
use Rattle.pieces.proofs.Faces.{all_projected}
use Rattle.pieces.proofs.face_pieces.Goals as goal

pub returns-then-stays_whole : goal.returns-then-stays_whole
returns-then-stays_whole c = λ w h facing.
    let scored = c.face_scored-t.ensures in
    all_projected _ _ _ w h facing (projected_corners c.in-Some.projected) (c.in-Some.ensures ∙ ap (project_face _ _) c.face-f.ensures.face)
    scored.first scored.second scored.third (c.stays_whole.ensures c.if-stays_whole.true)

pub returns : goal.returns
returns c = λ w h facing.
    let scored = c.face_scored-t.ensures in
    all_projected _ _ _ w h facing (projected_corners c.in-Some.projected) (c.in-Some.ensures ∙ ap (project_face _ _) c.face-f.ensures.face)
    scored.first scored.second scored.third c.clip.ensures
