use Prim.Native.Nat.{◌*◌}
use mathlib.Core.Path.{ap, sym, ◌∙◌}
use lib.ListN.{length}
use Rattle.outline_views.specs.Outline.{OutlineView}
use Rattle.antialias_bwd.specs.Laws.{bwd_antialias_accepted}
use Rattle.antialias_bwd.proofs.bwd_antialias.Goals as goal

pub scatter_outline-requires-clause-pixels : goal.scatter_outline-requires-clause-pixels
scatter_outline-requires-clause-pixels c =
    (bwd_antialias_accepted _ _ _ _ _ c.in_ok-o.ensures.code).0 ∙ sym (ap (λ (s : OutlineView). s.width * s.height) c.in_ok-o.ensures.lent.seen)

pub invariant_of-values : goal.invariant_of-values
invariant_of-values c = let known = bwd_antialias_accepted _ _ _ _ _ c.in_ok-o.ensures.code in record { alike = known.1 ∙ sym known.0 }

pub scatter_outline-requires-clause-lent : goal.scatter_outline-requires-clause-lent
scatter_outline-requires-clause-lent c =
    (bwd_antialias_accepted _ _ _ _ _ c.in_ok-o.ensures.code).2 ∙ sym (ap (λ (s : OutlineView). length s.vertices) c.in_ok-o.ensures.lent.seen)
