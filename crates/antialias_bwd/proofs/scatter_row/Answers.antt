use Prim.Native.Nat.{ℕ}
use mathlib.Core.Path.{refl}
use mathlib.Core.List.{List}
use native.Mathlib.Omega.{arith}
use Rattle.meshes.specs.Sums.{Addition, added, summed}
use Rattle.outlines.specs.Answer.{ends_of}
use Rattle.lists.specs.Laws.Folds.{folds_first, folds_next}
use Rattle.outline_views.specs.Laws.{column_items, row_ended}
use Rattle.outline_views.specs.Answer.{seen_of}
use Rattle.antialias_bwd.specs.Answer.{brought, ready_still}
use Rattle.antialias_bwd.specs.Laws.{as_long}
use Rattle.antialias_bwd.proofs.scatter_row.Goals as goal

pub scatter_pixel-requires-clause-ready : goal.scatter_pixel-requires-clause-ready
scatter_pixel-requires-clause-ready c = ready_still c.requires.ready c.loop-x.invariant.0

pub loop-x-init : goal.loop-x-init
unfolding summed
loop-x-init c =
    let a = c.args in
    let f : ℕ → List Addition = column_items (brought a.values.now a.a.now) (seen_of a.o.now) (ends_of a.a.now.t.reach.e) a.y in
    (refl, omega arith, omega arith, folds_first added f a.sums.now c.columns-columns.result.start)

pub loop-x-preserved : goal.loop-x-preserved
unfolding summed
loop-x-preserved c =
    let a = c.args in
    let inv = c.loop-x.invariant in
    let f : ℕ → List Addition = column_items (brought a.values.now a.a.now) (seen_of a.o.now) (ends_of a.a.now.t.reach.e) a.y in (
      as_long c.loop-x.sums (f c.loop-x.x) inv.0 c.scatter_pixel.ensures,
      omega (arith, inv.1),
      omega (arith, inv.1, inv.2, c.loop-x-test.true),
      folds_next added f a.sums.now c.columns-columns.result.start c.loop-x.x inv.1 inv.3 c.scatter_pixel.ensures,
    )

pub returns : goal.returns
unfolding summed
returns c =
    let a = c.args in
    let inv = c.loop-x.invariant in
    row_ended (brought a.values.now a.a.now) (seen_of a.o.now) (ends_of a.a.now.t.reach.e) added a.sums.now a.y c.columns-columns.result c.loop-x.x
    (rw c.requires.ready.width at c.columns-columns.ensures) (omega (arith, inv.1, inv.2, c.loop-x-test.false)) inv.3
