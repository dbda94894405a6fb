use Rattle.std.proofs.Common.{rules, refl, ◌∙◌}
use Rattle.std.proofs.lemmas.Iterator.Search.{all_from_yields_List}
use Rattle.lists.specs.Laws.Every.{every_row}
use Rattle.lists.proofs.Ranges.{span_given}
use Rattle.pixel_rays.proofs.row_ok.Goals as goal

pub returns : goal.returns
returns c = all_from_yields_List _ _ _ _ c.all.ensures.ran (span_given _ refl) (λ ix b q k. search rules) ∙ every_row _ _ _
