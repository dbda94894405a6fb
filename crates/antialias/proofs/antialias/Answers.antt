use mathlib.Core.Path.{ap, sym, ◌∙◌}
use Prim.Native.Nat.{◌*◌}
use Rattle.outline_views.specs.Outline.{OutlineView}
use Rattle.antialias.specs.Laws.{antialias_accepted}
use Rattle.antialias.proofs.antialias.Goals as goal

pub smooth_outline-requires-clause-pixels : goal.smooth_outline-requires-clause-pixels
smooth_outline-requires-clause-pixels c =
    (antialias_accepted _ _ _ _ c.in_ok-o.ensures.code).0 ∙ sym (ap (λ (s : OutlineView). s.width * s.height) c.in_ok-o.ensures.lent.seen)

pub smooth_outline-requires-clause-lent : goal.smooth_outline-requires-clause-lent
smooth_outline-requires-clause-lent c = let known = antialias_accepted _ _ _ _ c.in_ok-o.ensures.code in known.1 ∙ sym known.0
