use Rattle.std.proofs.Common.{rules, refl}
use Rattle.std.proofs.lemmas.Iterator.Search.{all_from_yields_List}
use Rattle.lists.proofs.Ranges.{span_given}
use Rattle.pairs.specs.Steps.{row_passes}
use Rattle.pairs.proofs.row_answered.Goals as goal

pub returns : goal.returns
unfolding row_passes
returns c = all_from_yields_List _ _ _ _ c.all.ensures.ran (span_given _ refl) (λ x b q k. search rules)
