use Rattle.std.proofs.Common.{rules, refl, sym, ◌∙◌}
use Rattle.std.proofs.lemmas.Iterator.Search.{all_from_yields_List}
use Rattle.lists.proofs.Ranges.{span_given}
use Rattle.pairs.specs.Laws.{answered_by_rows}
use Rattle.pairs.specs.Answer.{axis_of, seen_of}
use Rattle.pairs.proofs.all_answered.Goals as goal

pub returns : goal.returns
returns c =
    all_from_yields_List _ _ _ _ c.all.ensures.ran (span_given _ refl) (λ y b q k. search rules) ∙ sym (answered_by_rows (axis_of c.args.axis) _ (seen_of c.args.view.now))
