use Rattle.std.proofs.Common.{◌≡◌, true}
use Rattle.lists.specs.Lists.{span, every}
use Rattle.geometry.specs.Leaf.{project}
use Rattle.meshes.specs.Mesh.{vertex_at}
use Rattle.inside.specs.Inside.{present}
use Rattle.inside.proofs.all_project.Given as goal

abbrev pub invariant-loop-v : goal.invariant-loop-v
invariant-loop-v l = every (λ v. present (project l.m (vertex_at l.vtx2xyz v))) (span 0 l.v) ≡ true
