use Rattle.std.proofs.Common.{rules, refl, ap, ◌∙◌, ℕ}
use Rattle.std.proofs.lemmas.Iterator.Search.{all_from_yields_List}
use Rattle.lists.specs.Lists.{span, every}
use Rattle.lists.proofs.Ranges.{span_given}
use Rattle.outline_views.specs.Outline.{edge_projects}
use Rattle.outline_views.specs.Answer.{seen_of}
use Rattle.outline_views.proofs.Outline.all_project.Goals as goal

pub returns : goal.returns
returns c =
    all_from_yields_List _ _ _ _ c.all.ensures.ran (span_given _ refl) (λ x b q k. search rules)
    ∙ ap (λ (n : ℕ). every (edge_projects (seen_of c.args.self.now)) (span 0 n)) c.edge_count.ensures
