use Prim.Native.Nat.{ℕ}
use mathlib.Core.List.{List}
use native.Mathlib.Omega.{arith}
use Rattle.outlines.specs.Answer.{ends_of}
use Rattle.lists.specs.Laws.Folds.{folds_first, folds_next}
use Rattle.outline_views.specs.Laws.{column_items, row_ended}
use Rattle.outline_views.specs.Answer.{seen_of}
use Rattle.antialias.specs.Smoothing.{Write, wrote, written, writes}
use Rattle.antialias.specs.Laws.{as_long}
use Rattle.antialias.proofs.smooth_row.Goals as goal

pub loop-x-init : goal.loop-x-init
unfolding written
loop-x-init c =
    let a = c.args in
    let f : ℕ → List Write = column_items (writes a.vin.now) (seen_of a.o.now) (ends_of a.t.now.reach.e) a.y in
    (c.requires.lent, omega arith, omega arith, folds_first wrote f a.vout.now c.columns-columns.result.start)

pub loop-x-preserved : goal.loop-x-preserved
unfolding written
loop-x-preserved c =
    let a = c.args in
    let inv = c.loop-x.invariant in
    let f : ℕ → List Write = column_items (writes a.vin.now) (seen_of a.o.now) (ends_of a.t.now.reach.e) a.y in (
      as_long c.loop-x.vout (f c.loop-x.x) inv.0 c.smooth_pixel.ensures,
      omega (arith, inv.1),
      omega (arith, inv.1, inv.2, c.loop-x-test.true),
      folds_next wrote f a.vout.now c.columns-columns.result.start c.loop-x.x inv.1 inv.3 c.smooth_pixel.ensures,
    )

pub returns : goal.returns
unfolding written
returns c =
    let a = c.args in
    let inv = c.loop-x.invariant in
    row_ended (writes a.vin.now) (seen_of a.o.now) (ends_of a.t.now.reach.e) wrote a.vout.now a.y c.columns-columns.result c.loop-x.x (rw c.requires.width at c.columns-columns.ensures)
    (omega (arith, inv.1, inv.2, c.loop-x-test.false)) inv.3
