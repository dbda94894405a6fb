use Rattle.std.proofs.lemmas.Bool.{not-true}
use Rattle.outline_spans.proofs.Lines.{none_from}
use Rattle.outline_spans.proofs.extent.is_past.Goals as goal

pub returns-then-not-edge-a : goal.returns-then-not-edge-a
returns-then-not-edge-a c = λ e. none_from _ _ _ _ _ c.as_float-edge.ensures c.if-not-edge-a.true (not-true _ e)
