use Prim.Native.Nat.{ℕ}
use mathlib.Core.Path.{◌≡◌}
use mathlib.Core.List.{List}
use native.Mathlib.Omega.{arith}
use Rattle.lists.specs.Laws.Folds.{folds_none, folds_more, folds_ended}
use Rattle.outline_views.specs.Outline.{edge_turn, edge_total, outline_items}
use Rattle.outline_views.specs.Answer.{seen_of}
use Rattle.antialias.specs.Smoothing.{Write, wrote, written, writes}
use Rattle.antialias.specs.Calls.{antialias_writes}
use Rattle.antialias.specs.Laws.{as_long}
use Rattle.antialias.proofs.smooth_outline.Goals as goal

pub loop-k-init : goal.loop-k-init
unfolding written
loop-k-init c = let a = c.args in (c.requires.lent, folds_none wrote (edge_turn (λ v e. writes a.vin.now) (seen_of a.o.now)) a.vout.now 0)

pub loop-k-preserved : goal.loop-k-preserved
unfolding written
loop-k-preserved c =
    let a = c.args in
    let inv = c.loop-k.invariant in
    let f : ℕ → List Write = edge_turn (λ v e. writes a.vin.now) (seen_of a.o.now) in
    let made : c.smooth_ends.new.vout ≡ written c.loop-k.vout (f c.loop-k.k) = rw c.edge.ensures.edge at c.smooth_ends.ensures in
    (as_long c.loop-k.vout (f c.loop-k.k) inv.0 made, folds_more wrote f a.vout.now c.loop-k.k inv.1 made)

pub returns : goal.returns
unfolding written antialias_writes outline_items
returns c =
    let a = c.args in
    let s = seen_of a.o.now in
    folds_ended wrote (edge_turn (λ v e. writes a.vin.now) s) a.vout.now c.loop-k.k (edge_total s) (omega (arith, c.edge_count-k-end.ensures)) (omega (arith, c.edge_count-k-end.ensures, c.loop-k-test.false)) c.loop-k.invariant.1
