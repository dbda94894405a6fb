use Rattle.std.proofs.Common.{arith}
use Rattle.pairs.specs.Answer.{axis_of, seen_of}
use Rattle.share_rules.specs.Laws.{answered-at}
use Rattle.axis_bwd.proofs.scatter_column.Goals as goal

pub scatter_pair-requires-clause-answered : goal.scatter_pair-requires-clause-answered
scatter_pair-requires-clause-answered c =
    let pairs = c.args.pairs.now in
    answered-at (seen_of pairs.view) pairs.view.size.h (axis_of pairs.axis) (record { column = c.requires.in_row; row = omega (arith, c.loop-y-test.true) }) c.requires.answered
