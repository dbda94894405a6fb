-- `kept_faces::draw_kept_faces`: one run of kept faces less is left at each turn.
use Rattle.std.specs.Prelude.{◌-◌, length}
use Rattle.cells.specs.Lent.{held, SameBuffers}
use Rattle.meshes.specs.Mesh.{faces_of}
use Rattle.rules.specs.Offers.{scene}
use Rattle.removal_rules.specs.Removal.{kept_by}
use Rattle.kept_faces.proofs.Runs.{Left}
use Rattle.kept_faces.proofs.draw_kept_faces.Given as goal

abbrev pub invariant-loop-i : goal.invariant-loop-i
invariant-loop-i l = let size = l.initial.layer.size in
    SameBuffers l.initial.layer l.layer
    × Left (scene l.m l.mesh.vtx2xyz.now size.w size.h l.facing) (kept_by l.removed) (faces_of l.mesh.tri2vtx.now) (held l.initial.layer) (held l.layer) l.i l.number

abbrev pub decreases-loop-i : goal.decreases-loop-i
decreases-loop-i l = length l.removed - l.i
