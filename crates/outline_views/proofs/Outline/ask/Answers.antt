use Rattle.std.proofs.Common.{sym, ◌∙◌}
use Rattle.questions.proofs.Laws.Refusals.{yes}
use Rattle.outline_views.proofs.Asked.{outline_passed}
use Rattle.outline_views.proofs.Outline.ask.Goals as goal

pub invariant_of-outline : goal.invariant_of-outline
invariant_of-outline c =
    record { sound = outline_passed _ _ _ _ _ _ _ _ (sym c.lengths_exact.ensures ∙ yes _ _ c.in_ok-ask-3.ensures) (sym c.all_below.ensures ∙ yes _ _ c.in_ok-ask-4.ensures) }
