-- `Lines::spanned`: the centres between the two ends.
use native.Mathlib.Omega.{arith}
use Rattle.boxes.proofs.Scans.{none_between, some_between}
use Rattle.boxes.proofs.lines.Lines.spanned.Goals as goal

pub returns-then-end-start : goal.returns-then-end-start
returns-then-end-start c = let a = c.args in
    none_between a.p a.q a.s a.self.n c.least.ensures c.greatest.ensures c.first_reached-start.ensures c.first_reached-end.ensures c.if-end-start.true

pub returns : goal.returns
returns c = let a = c.args in
    some_between a.p a.q a.s a.self.n c.least.ensures c.greatest.ensures c.first_reached-start.ensures c.first_reached-end.ensures (omega arith)
