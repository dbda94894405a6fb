use Rattle.std.proofs.Common.{sym}
use Rattle.outlines.specs.Answer.{ends_of}
use Rattle.outline_spans.proofs.Sides.{runs_falling, runs_rising}
use Rattle.outline_spans.proofs.course.course_of.Goals as goal

pub returns-then-down : goal.returns-then-down
returns-then-down c = let a = c.args in
    runs_falling (ends_of a.e) _ _ a.size.sized.w_most a.size.sized.h_most (sym c.if-not-ends_finite.ensures) (sym c.if-not-ends_finite-2.ensures) c.if-down.true

pub returns-then-down-2 : goal.returns-then-down-2
returns-then-down-2 c = let a = c.args in
    runs_rising (ends_of a.e) _ _ a.size.sized.w_most a.size.sized.h_most (sym c.if-not-ends_finite.ensures) (sym c.if-not-ends_finite-2.ensures) c.if-down-2.true
