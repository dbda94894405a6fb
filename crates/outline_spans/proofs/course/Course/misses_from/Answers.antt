use Rattle.std.proofs.Common.{sym, ◌∙◌}
use Rattle.outlines.specs.Answer.{ends_of}
use Rattle.outline_spans.proofs.Misses.{falling_from, rising_from}
use Rattle.outline_spans.proofs.course.Course.misses_from.Goals as goal

pub returns-in-Falling : goal.returns-in-Falling
returns-in-Falling c = λ t.
    falling_from (ends_of c.args.e) _ _ _ _ c.requires.column c.requires.row (c.requires.runs.falls c.in-Falling.is) (sym c.below_at.ensures ∙ t)

pub returns-in-Rising : goal.returns-in-Rising
returns-in-Rising c = λ t.
    rising_from (ends_of c.args.e) _ _ _ _ c.requires.column c.requires.row (c.requires.runs.rises c.in-Rising.is) (sym c.above_at.ensures ∙ t)
