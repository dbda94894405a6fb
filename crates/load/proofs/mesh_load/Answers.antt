-- `load::mesh_load`: a face more is counted at each turn.
use mathlib.Core.Path.{◌∙◌}
use native.Mathlib.Omega.{arith}
use Rattle.rules.specs.declared.Facing.TheVariants.{All}
use Rattle.rules.specs.Offers.{scene}
use Rattle.load.proofs.Counted.{none_yet, one_more, all_counted}
use Rattle.load.proofs.mesh_load.Goals as goal

pub loop-i-init : goal.loop-i-init
loop-i-init c = none_yet _ _

pub loop-i-preserved : goal.loop-i-preserved
loop-i-preserved c = let a = c.args in
    one_more (scene a.m.now a.mesh.now.vtx2xyz.now a.size.w a.size.h All) a.mesh.now.tri2vtx.now a.size.sized (omega arith) c.loop-i.invariant
    (c.face_pieces-ps.ensures a.size.w a.size.h All) (c.from-pieces.ensures ∙ c.charge.ensures) c.pieces_pixels-pixels.ensures

pub overflow_add-pixels : goal.overflow_add-pixels
overflow_add-pixels c = let a = c.args in
    let more = one_more (scene a.m.now a.mesh.now.vtx2xyz.now a.size.w a.size.h All) a.mesh.now.tri2vtx.now a.size.sized (omega arith) c.loop-i.invariant
    (c.face_pieces-ps.ensures a.size.w a.size.h All) (c.from-pieces.ensures ∙ c.charge.ensures) c.pieces_pixels-pixels.ensures in
    record { fits = omega (arith, more.fits) }

pub returns : goal.returns
returns c = let a = c.args in
    all_counted (scene a.m.now a.mesh.now.vtx2xyz.now a.size.w a.size.h All) a.mesh.now.tri2vtx.now (omega arith) c.loop-i.invariant
