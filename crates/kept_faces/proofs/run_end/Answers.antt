-- `kept_faces::run_end`: the marks passed and those still to be counted are the run's.
use Rattle.std.proofs.Common.{arith}
use Rattle.kept_faces.proofs.Marks.{run_more, run_stops, run-over}
use Rattle.kept_faces.proofs.run_end.Goals as goal

pub returns-then-removed-end-ne0 : goal.returns-then-removed-end-ne0
returns-then-removed-end-ne0 c = omega (arith, c.loop-end.invariant, run_stops c.args.removed.now c.loop-end.end (omega arith) (λ e. omega arith))

pub loop-end-preserved : goal.loop-end-preserved
loop-end-preserved c = omega (arith, c.loop-end.invariant, run_more c.args.removed.now c.loop-end.end (omega arith) (omega arith))

pub returns : goal.returns
returns c = omega (arith, c.loop-end.invariant, run-over c.args.removed.now c.loop-end.end (omega arith))
