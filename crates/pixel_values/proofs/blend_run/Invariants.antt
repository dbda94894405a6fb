use Rattle.std.proofs.Common.{◌≡◌}
use Rattle.geometry.specs.Answer.{weights_of}
use Rattle.lists.specs.Laws.Tables.{stored}
use Rattle.meshes.specs.Answer.{face_of}
use Rattle.vertex_values.specs.Answer.{vertices_of}
use Rattle.pixel_values.specs.Pixel.{blend_of}
use Rattle.pixel_values.proofs.blend_run.Given as goal

abbrev pub invariant-loop-j : goal.invariant-loop-j
invariant-loop-j l = l.val ≡ stored (blend_of (vertices_of l.vertices) (face_of l.f) (weights_of l.b)) l.initial.val l.j
