use Rattle.std.proofs.Common.{◌≡◌, ◌∙◌, ap, ap₂, arith, slice_set}
use Rattle.geometry.specs.Answer.{weights_of}
use Rattle.lists.specs.Laws.Tables.{stored, stored_none, stored_more, stored_all}
use Rattle.meshes.specs.Answer.{face_of}
use Rattle.vertex_values.specs.Answer.{vertices_of}
use Rattle.pixel_values.specs.Pixel.{blend_of}
use Rattle.pixel_values.proofs.blend_run.Goals as goal

pub loop-j-init : goal.loop-j-init
loop-j-init c = stored_none _ c.args.val.now

pub loop-j-preserved : goal.loop-j-preserved
unfolding blend_of
loop-j-preserved c =
    let j = c.loop-j.j in
    let here : c.blend.result ≡ blend_of (vertices_of c.args.vertices.now) (face_of c.args.f) (weights_of c.args.b) j = cc in
    ap₂ (λ t x. slice_set t j x) c.loop-j.invariant here ∙ stored_more _ c.args.val.now j (omega arith)

pub returns : goal.returns
returns c =
    let all : c.loop-j.j ≡ c.args.vertices.now.num_vdim = omega (arith, c.requires.whole) in
    c.loop-j.invariant ∙ ap (stored _ c.args.val.now) all ∙ stored_all _ c.args.val.now _ c.requires.whole
