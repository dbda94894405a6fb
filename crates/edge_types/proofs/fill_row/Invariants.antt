use Rattle.std.proofs.Common.{◌≡◌, ◌*◌}
use Rattle.pairs.specs.Answer.{axis_of, seen_of}
use Rattle.pairs.specs.Values.{values_of}
use Rattle.edge_types.specs.Steps.{pairs_filled}
use Rattle.edge_types.specs.Lent.{held, SameBuffers}
use Rattle.edge_types.proofs.fill_row.Given as goal

abbrev pub invariant-loop-x : goal.invariant-loop-x
invariant-loop-x l =
    record {
      same : SameBuffers l.initial.buffers l.buffers;
      filled : held l.buffers ≡ pairs_filled (axis_of l.axis) (seen_of l.view) (values_of l.values) (l.y * l.columns) l.x (held l.initial.buffers);
    }
