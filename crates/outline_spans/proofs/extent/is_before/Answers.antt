use Rattle.std.proofs.lemmas.Bool.{not-true}
use Rattle.outline_spans.proofs.Lines.{none_before}
use Rattle.outline_spans.proofs.extent.is_before.Goals as goal

pub returns-then-not-a-edge : goal.returns-then-not-a-edge
returns-then-not-a-edge c = λ e. none_before _ _ _ _ _ c.as_float-edge.ensures c.if-not-a-edge.true (not-true _ e)
