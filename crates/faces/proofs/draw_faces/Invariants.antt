-- `faces::draw_faces`: one face less is left at each turn.
use Rattle.cells.specs.Lent.{held, SameBuffers}
use Rattle.meshes.specs.Mesh.{faces_of}
use Rattle.rules.specs.Offers.{scene}
use Rattle.faces.proofs.FaceList.{Left}
use Rattle.faces.proofs.draw_faces.Given as goal

abbrev pub invariant-loop-i : goal.invariant-loop-i
invariant-loop-i l = let size = l.initial.layer.size in
    SameBuffers l.initial.layer l.layer
    × Left (scene l.m l.mesh.vtx2xyz.now size.w size.h l.facing) (faces_of l.mesh.tri2vtx.now) l.first (held l.initial.layer) (held l.layer) l.i
