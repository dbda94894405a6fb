use Prim.Native.Nat.{◌*◌}
use mathlib.Core.Path.{◌≡◌, sym, ap, ◌∙◌}
use native.Mathlib.Omega.{arith}
use lib.ListN.{length, length-set}
use Rattle.lists.specs.Laws.Tables.{stored, stored_none, stored_all}
use Rattle.velocity.proofs.Places.{x_place, y_place, two_more}
use Rattle.velocity.proofs.fill_velocities.Goals as goal

pub loop-v-init : goal.loop-v-init
loop-v-init c = (c.requires.lent, stored_none _ _)

pub loop-v-preserved : goal.loop-v-preserved
loop-v-preserved c =
    let e = c.point.ensures in
    let a = c.args in (
      simp length-set c.loop-v.invariant.0,
      two_more _ _ c.loop-v.v _ _ (omega (arith, c.requires.lent)) c.loop-v.invariant.1
          (c.at-velo.ensures.x ∙ rw e (sym (x_place _ _ a.edges.now.hedge2vy.now _ _ c.loop-v.v)))
          (c.at-velo.ensures.y ∙ rw e (sym (y_place _ _ _ a.edges.now.vedge2vx.now _ c.loop-v.v))),
    )

pub returns : goal.returns
returns c =
    let e : 2 * c.loop-v.v ≡ length c.args.vtx2xy.now = omega (arith, c.requires.pairs) in
    c.loop-v.invariant.1 ∙ ap (stored _ _) e ∙ stored_all _ _ _ c.requires.lent
