-- `kept_faces::run_end`: the marks passed and those still to be counted are the run's.
use Rattle.std.specs.Prelude.{◌+◌, ◌≡◌, drop}
use Rattle.kept_faces.specs.Run.{kept_run}
use Rattle.kept_faces.proofs.run_end.Given as goal

abbrev pub invariant-loop-end : goal.invariant-loop-end
invariant-loop-end l = l.end + kept_run (drop l.end l.removed) ≡ l.i + kept_run (drop l.i l.removed)
