use Rattle.std.proofs.Common.{◌≡◌}
use Rattle.geometry.specs.Answer.{weights_of}
use Rattle.meshes.specs.Answer.{face_of}
use Rattle.vertex_values.specs.Answer.{vertices_of}
use Rattle.pixel_gradients.specs.Gradients.{incoming_at}
use Rattle.pixel_gradients.proofs.Gathered.{gathered_to}
use Rattle.pixel_gradients.proofs.gather.Given as goal

abbrev pub invariant-loop-j : goal.invariant-loop-j
invariant-loop-j l = weights_of l.b ≡ gathered_to (vertices_of l.vertices) (face_of l.f) (incoming_at l.dldw l.at) l.j
