use Rattle.std.proofs.Common.{◌≡◌, ◌*◌}
use Rattle.pixels.specs.Edge.{per_row}
use Rattle.pairs.specs.Answer.{axis_of, seen_of}
use Rattle.pairs.specs.Values.{values_of}
use Rattle.edge_types.specs.Steps.{pairs_filled}
use Rattle.edge_types.specs.Lent.{held, SameBuffers}
use Rattle.edge_types.proofs.fill_axis.Given as goal

abbrev pub invariant-loop-y : goal.invariant-loop-y
invariant-loop-y l =
    record {
      same : SameBuffers l.initial.buffers l.buffers;
      filled : held l.buffers ≡ pairs_filled (axis_of l.axis) (seen_of l.view) (values_of l.values) 0 (l.y * per_row (axis_of l.axis) l.view.size.w) (held l.initial.buffers);
    }
