use Prim.Native.Nat.{ℕ, ◌<◌}
use Rattle.pixel_unwraps.specs.Steps.{WeighsOrInner}
use Rattle.pixel_unwraps.proofs.all_weigh_or_inner.Given as goal

abbrev pub invariant-loop-y : goal.invariant-loop-y
invariant-loop-y l = (y : ℕ) → y < l.y → (x : ℕ) → x < l.view.size.w → WeighsOrInner l.view.mesh.tri2vtx.now l.view.pix2tri.now l.view.m.now l.view.mesh.vtx2xyz.now l.view.size.w l.view.size.h x y
