use Rattle.std.proofs.Common.{◌≡◌, arith, ap, ◌∙◌}
use Rattle.meshes.specs.Answer.{face_of}
use Rattle.vertex_values.specs.Answer.{vertices_of}
use Rattle.pixel_gradients.specs.Gradients.{incoming_at, incoming}
use Rattle.pixel_gradients.proofs.Gathered.{gathered_to}
use Rattle.pixel_gradients.proofs.gather.Goals as goal

pub returns : goal.returns
unfolding incoming
returns c =
    let all : c.loop-j.j ≡ c.args.vertices.now.num_vdim = omega arith in
    c.loop-j.invariant ∙ ap (gathered_to (vertices_of c.args.vertices.now) (face_of c.args.f) (incoming_at c.args.dldw.now c.args.at)) all
