-- `two_runs::draw_in_two_runs`: what the calls promise, and the theorem.
use Rattle.std.proofs.Common.{arith}
use Rattle.cells.specs.Layer.{layer}
use Rattle.two_runs.proofs.Runs.{few_faces, runs_joined}
use Rattle.two_runs.proofs.draw_in_two_runs.Goals as goal

pub overflow_cast-count : goal.overflow_cast-count
overflow_cast-count c = let a = c.args in
    record { fits = omega (arith, c.requires.count, few_faces a.tri2vtx.now a.vtx2xyz.now a.img_w a.img_h a.transform_world2ndc.now a.facing c.requires.accepted) }

pub returns : goal.returns
returns c = let a = c.args in
    runs_joined a.tri2vtx.now a.vtx2xyz.now a.img_w a.img_h a.transform_world2ndc.now a.facing c.requires.accepted
    (layer a.left_pix2tri.now a.left_pix2depth.now a.left_pix2weights.now) (layer a.right_pix2tri.now a.right_pix2depth.now a.right_pix2weights.now) a.count
    c.requires.count c.requires.left c.requires.right c.draw_run.ensures c.draw_run-2.ensures c.join.ensures
