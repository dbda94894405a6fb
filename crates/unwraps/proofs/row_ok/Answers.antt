use Rattle.std.proofs.Common.{rules, refl, arith}
use Rattle.std.proofs.lemmas.Iterator.{serves_from_Range}
use Rattle.std.proofs.lemmas.Iterator.Search.{all_from_yields_List}
use Rattle.lists.proofs.Ranges.{span_given}
use Rattle.pairs.specs.Steps.{Within, row_passes}
use Rattle.pairs.specs.Answer.{axis_of, seen_of}
use Rattle.share_rules.specs.Laws.{answered-at}
use Rattle.unwraps.proofs.row_ok.Goals as goal

pub all-requires-clause-callable : goal.all-requires-clause-callable
all-requires-clause-callable c =
    serves_from_Range (λ x q k. search rules)
    (λ x low high _ _ _ _ _ _ _.
    let pairs = c.args.pairs.now in
    let within : Within pairs.view.size.w pairs.view.size.h pairs.axis.right pairs.axis.down x c.args.y = record { column = omega (arith, high); row = c.requires.in_column } in
    (within, answered-at (seen_of pairs.view) pairs.view.size.h (axis_of pairs.axis) within c.requires.answered))

pub returns : goal.returns
unfolding row_passes
returns c = all_from_yields_List _ _ _ _ c.all.ensures.ran (span_given _ refl) (λ x b q k. search rules)
