use Prim.Native.Nat.{ℕ}
use mathlib.Core.Path.{◌≡◌, refl}
use mathlib.Core.List.{List}
use native.Mathlib.Omega.{arith}
use Rattle.lists.specs.Laws.Folds.{folds_none, folds_more, folds_ended}
use Rattle.meshes.specs.Sums.{Addition, added, summed}
use Rattle.outline_views.specs.Outline.{edge_turn, edge_total, outline_items}
use Rattle.outline_views.specs.Answer.{seen_of}
use Rattle.antialias_bwd.specs.Additions.{crossing_additions}
use Rattle.antialias_bwd.specs.Calls.{outline_additions}
use Rattle.antialias_bwd.specs.Laws.{as_long}
use Rattle.antialias_bwd.proofs.scatter_outline.Goals as goal

pub loop-k-init : goal.loop-k-init
unfolding summed
loop-k-init c =
    let a = c.args in
    (refl, folds_none added (edge_turn (crossing_additions a.o.now.m.now a.o.now.vtx2xyz.now a.values.now.pix2val.now a.values.now.dldw_pix2val.now) (seen_of a.o.now)) a.sums.now 0)

pub loop-k-preserved : goal.loop-k-preserved
unfolding summed
loop-k-preserved c =
    let a = c.args in
    let inv = c.loop-k.invariant in
    let f : ℕ → List Addition = edge_turn (crossing_additions a.o.now.m.now a.o.now.vtx2xyz.now a.values.now.pix2val.now a.values.now.dldw_pix2val.now) (seen_of a.o.now) in
    let made : c.scatter_ends.new.sums ≡ summed c.loop-k.sums (f c.loop-k.k) = rw c.edge.ensures.edge at c.scatter_ends.ensures in
    (as_long c.loop-k.sums (f c.loop-k.k) inv.0 made, folds_more added f a.sums.now c.loop-k.k inv.1 made)

pub returns : goal.returns
unfolding summed outline_additions outline_items
returns c =
    let a = c.args in
    let s = seen_of a.o.now in
    folds_ended added (edge_turn (crossing_additions a.o.now.m.now a.o.now.vtx2xyz.now a.values.now.pix2val.now a.values.now.dldw_pix2val.now) s) a.sums.now c.loop-k.k (edge_total s)
    (omega (arith, c.edge_count-k-end.ensures)) (omega (arith, c.edge_count-k-end.ensures, c.loop-k-test.false)) c.loop-k.invariant.1
