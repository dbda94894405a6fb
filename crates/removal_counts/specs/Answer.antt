-- What the code's answer stands for, with the layers that the call leaves.
use Rattle.std.specs.Prelude.{Result, Ok, Err}
use Rattle.questions.specs.declared.Refusal.{Refusal}
use Rattle.questions.specs.Answer.{number_of}
use Rattle.questions.specs.Questions.{Outcome, outcome}
use Rattle.cells.specs.Layer.{Layer}
use Rattle.removal_rules.specs.Removal as rule
use Rattle.removal_rules.specs.Removal.{preview, Previewed, previewed}
use Rattle.removal_counts.specs.declared.Preview.{Preview}
use Rattle.removal_counts.specs.declared.RemovalPreview.{RemovalPreview}

abbrev pub preview_of : Preview → rule.Preview
preview_of p = preview p.emptied p.renamed p.kept

abbrev pub answered : Result Preview Refusal → Layer → Layer → Outcome Previewed
answered (Ok p) full short = outcome 0 (previewed (preview_of p) full short)
answered (Err r) full short = outcome (number_of r) (previewed (preview 0 0 0) full short)

-- as C takes it
abbrev pub answered_in_c : RemovalPreview → Layer → Layer → Outcome Previewed
answered_in_c r full short = outcome r.code (previewed (preview r.emptied r.renamed r.kept) full short)
