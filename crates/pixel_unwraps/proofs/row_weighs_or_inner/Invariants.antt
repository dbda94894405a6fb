use Prim.Native.Nat.{ℕ, ◌<◌}
use Rattle.pixel_unwraps.specs.Steps.{WeighsOrInner}
use Rattle.pixel_unwraps.proofs.row_weighs_or_inner.Given as goal

abbrev pub invariant-loop-x : goal.invariant-loop-x
invariant-loop-x l = (x : ℕ) → x < l.x → WeighsOrInner l.view.mesh.tri2vtx.now l.view.pix2tri.now l.view.m.now l.view.mesh.vtx2xyz.now l.view.size.w l.view.size.h x l.y
