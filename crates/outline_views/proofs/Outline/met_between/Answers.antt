use Rattle.std.proofs.Common.{sym, ◌∙◌}
use Rattle.outlines.specs.Answer.{ends_of, pixel_of}
use Rattle.outline_views.specs.Laws.{met_there, met_back}
use Rattle.outline_views.specs.Answer.{seen_of}
use Rattle.outline_views.proofs.Outline.met_between.Goals as goal

pub returns-then-not-shows-clause-met : goal.returns-then-not-shows-clause-met
returns-then-not-shows-clause-met c =
    let a = c.args in
    c.met.ensures.met
    ∙ met_back (seen_of a.self.now) (ends_of a.e) (pixel_of a.p) (pixel_of a.q) (sym c.shows.ensures ∙ c.if-not-shows.true) (sym c.shows-then-not-shows.ensures ∙ c.if-not-shows-2.false)

pub returns-clause-met : goal.returns-clause-met
returns-clause-met c =
    let a = c.args in
    c.met-2.ensures.met
    ∙ met_there (seen_of a.self.now) (ends_of a.e) (pixel_of a.p) (pixel_of a.q) (sym c.shows.ensures ∙ c.if-not-shows.false) (sym c.shows-2.ensures ∙ c.if-shows.false)
