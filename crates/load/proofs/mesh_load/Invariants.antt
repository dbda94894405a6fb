-- `load::mesh_load`: a face more is counted at each turn.
use Rattle.meshes.specs.Mesh.{faces_of}
use Rattle.rules.specs.declared.Facing.TheVariants.{All}
use Rattle.rules.specs.Offers.{scene}
use Rattle.load.proofs.Counted.{Counted}
use Rattle.load.proofs.mesh_load.Given as goal

abbrev pub invariant-loop-i : goal.invariant-loop-i
invariant-loop-i l = Counted (scene l.m l.mesh.vtx2xyz.now l.size.w l.size.h All) (faces_of l.mesh.tri2vtx.now) l.i l.pieces l.pixels
