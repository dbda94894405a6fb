use Rattle.std.proofs.Common.{rules, refl, sym, ◌∙◌}
use Rattle.std.proofs.lemmas.Iterator.{serves_from_Range}
use Rattle.std.proofs.lemmas.Iterator.Search.{all_from_yields_List}
use Rattle.lists.proofs.Ranges.{span_given}
use Rattle.pairs.specs.Answer.{axis_of, seen_of}
use Rattle.unwraps.proofs.Cases.{unwraps_by_rows}
use Rattle.unwraps.proofs.all_ok.Goals as goal

pub all-requires-clause-callable : goal.all-requires-clause-callable
all-requires-clause-callable c = serves_from_Range (λ y q k. search rules) (λ y low high. search rules)

pub returns : goal.returns
returns c =
    all_from_yields_List _ _ _ _ c.all.ensures.ran (span_given _ refl) (λ y b q k. search rules) ∙ sym (unwraps_by_rows (axis_of c.args.pairs.now.axis) _ (seen_of c.args.pairs.now.view))
