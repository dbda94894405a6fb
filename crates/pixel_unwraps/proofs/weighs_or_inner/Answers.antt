use Rattle.inside.specs.Laws.{entry-projects}
use Rattle.tris.specs.Laws.{shown-projects}
use Rattle.pixel_unwraps.proofs.weighs_or_inner.Goals as goal

pub shown_weighs-requires : goal.shown_weighs-requires
shown_weighs-requires c =
    let v = c.args.view.now in
    let shown = c.named-shown.ensures in
    shown-projects v.m.now v.mesh.vtx2xyz.now c.named-shown.result shown.among (rw shown.face (entry-projects v.m.now v.mesh.sound c.requires.projected c.entry.result c.entry.ensures.named))
