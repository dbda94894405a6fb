-- The velocities of the vertices before v are stored.
use Prim.Native.Nat.{◌*◌}
use mathlib.Core.Path.{◌≡◌}
use lib.ListN.{length}
use Rattle.lists.specs.Laws.Tables.{stored}
use Rattle.velocity.specs.Velocity.{velocity_at}
use Rattle.velocity.proofs.fill_velocities.Given as goal

abbrev pub invariant-loop-v : goal.invariant-loop-v
invariant-loop-v l = (length l.vtx2velo ≡ length l.vtx2xy)
    × (l.vtx2velo ≡ stored (velocity_at l.edges.size.w l.edges.size.h l.edges.hedge2vy.now l.edges.vedge2vx.now l.vtx2xy) l.initial.vtx2velo (2 * l.v))
