-- An accepted call has a table of few enough faces, and a picture of the map's length.
use mathlib.Core.Path.{sym, ◌∙◌}
use Rattle.labels.proofs.Laws.{ready}
use Rattle.labels.proofs.label_picture.Goals as goal

pub label_pixels-requires : goal.label_pixels-requires
label_pixels-requires c = let a = ready _ _ _ _ _ (sym c.in_ok-ask_label.ensures) in record { few = a.few; lent = a.lent ∙ sym a.whole }
