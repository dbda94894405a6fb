-- A strip whose pixels have one entry shows one body.
use Rattle.labels.proofs.Filling.{one_body}
use Rattle.labels.proofs.label_strip.Goals as goal

pub returns-then-all_show : goal.returns-then-all_show
returns-then-all_show c = one_body _ _ _ _ _ _ _ c.if-all_show.ensures c.label_of.ensures c.fill_strip.ensures
