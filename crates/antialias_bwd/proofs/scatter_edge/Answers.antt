use Prim.Native.Nat.{ℕ}
use mathlib.Core.Path.{refl}
use mathlib.Core.List.{List}
use native.Mathlib.Omega.{arith}
use Rattle.meshes.specs.Sums.{Addition, added, summed}
use Rattle.outlines.specs.Answer.{ends_of}
use Rattle.lists.specs.Laws.Folds.{folds_first, folds_next}
use Rattle.outline_views.specs.Laws.{row_items, edge_ended}
use Rattle.outline_views.specs.Answer.{seen_of}
use Rattle.antialias_bwd.specs.Answer.{brought, ready_still}
use Rattle.antialias_bwd.specs.Laws.{as_long}
use Rattle.antialias_bwd.proofs.scatter_edge.Goals as goal

pub scatter_row-requires-clause-ready : goal.scatter_row-requires-clause-ready
scatter_row-requires-clause-ready c = ready_still c.requires.ready c.loop-y.invariant.0

pub loop-y-init : goal.loop-y-init
unfolding summed
loop-y-init c =
    let a = c.args in
    let f : ℕ → List Addition = row_items (brought a.values.now a.a.now) (seen_of a.o.now) (ends_of a.a.now.t.reach.e) in
    (refl, omega arith, omega arith, folds_first added f a.sums.now a.a.now.t.reach.rows.start)

pub loop-y-preserved : goal.loop-y-preserved
unfolding summed
loop-y-preserved c =
    let a = c.args in
    let inv = c.loop-y.invariant in
    let f : ℕ → List Addition = row_items (brought a.values.now a.a.now) (seen_of a.o.now) (ends_of a.a.now.t.reach.e) in (
      as_long c.loop-y.sums (f c.loop-y.y) inv.0 c.scatter_row.ensures,
      omega (arith, inv.1),
      omega (arith, inv.1, inv.2, c.loop-y-test.true),
      folds_next added f a.sums.now a.a.now.t.reach.rows.start c.loop-y.y inv.1 inv.3 c.scatter_row.ensures,
    )

pub returns : goal.returns
unfolding summed
returns c =
    let a = c.args in
    let inv = c.loop-y.invariant in
    edge_ended (brought a.values.now a.a.now) (seen_of a.o.now) (ends_of a.a.now.t.reach.e) added a.sums.now a.a.now.t.reach.rows c.loop-y.y
    (rw c.requires.ready.height at a.a.now.t.reach.extent) (omega (arith, inv.1, inv.2, c.loop-y-test.false)) inv.3
