use Prim.Native.Nat.{ℕ}
use mathlib.Core.List.{List}
use native.Mathlib.Omega.{arith}
use Rattle.outlines.specs.Answer.{ends_of}
use Rattle.lists.specs.Laws.Folds.{folds_first, folds_next}
use Rattle.outline_views.specs.Laws.{row_items, edge_ended}
use Rattle.outline_views.specs.Answer.{seen_of}
use Rattle.antialias.specs.Smoothing.{Write, wrote, written, writes}
use Rattle.antialias.specs.Laws.{as_long}
use Rattle.antialias.proofs.smooth_edge.Goals as goal

pub loop-y-init : goal.loop-y-init
unfolding written
loop-y-init c =
    let a = c.args in
    let f : ℕ → List Write = row_items (writes a.vin.now) (seen_of a.o.now) (ends_of a.t.now.reach.e) in
    (c.requires.lent, omega arith, omega arith, folds_first wrote f a.vout.now a.t.now.reach.rows.start)

pub loop-y-preserved : goal.loop-y-preserved
unfolding written
loop-y-preserved c =
    let a = c.args in
    let inv = c.loop-y.invariant in
    let f : ℕ → List Write = row_items (writes a.vin.now) (seen_of a.o.now) (ends_of a.t.now.reach.e) in (
      as_long c.loop-y.vout (f c.loop-y.y) inv.0 c.smooth_row.ensures,
      omega (arith, inv.1),
      omega (arith, inv.1, inv.2, c.loop-y-test.true),
      folds_next wrote f a.vout.now a.t.now.reach.rows.start c.loop-y.y inv.1 inv.3 c.smooth_row.ensures,
    )

pub returns : goal.returns
unfolding written
returns c =
    let a = c.args in
    let inv = c.loop-y.invariant in
    edge_ended (writes a.vin.now) (seen_of a.o.now) (ends_of a.t.now.reach.e) wrote a.vout.now a.t.now.reach.rows c.loop-y.y (rw c.requires.height at a.t.now.reach.extent)
    (omega (arith, inv.1, inv.2, c.loop-y-test.false)) inv.3
