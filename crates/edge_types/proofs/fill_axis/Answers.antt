use Rattle.pairs.specs.Answer.{axis_of, seen_of}
use Rattle.pairs.specs.Values.{values_of}
use Rattle.edge_types.proofs.Filling.{pairs_none, types_length, row_more, axis_filled}
use Rattle.edge_types.proofs.Kept.{same_none, same_then}
use Rattle.std.proofs.Common.{zero-mul}
use Rattle.edge_types.proofs.fill_axis.Goals as goal

pub loop-y-init : goal.loop-y-init
loop-y-init c = record { same = same_none _; filled = rw zero-mul (pairs_none _ _ _ _ _) }

pub fill_row-requires-clause-count : goal.fill_row-requires-clause-count
fill_row-requires-clause-count c =
    types_length (axis_of c.args.axis) (seen_of c.args.view.now) (values_of c.args.values.now) c.args.view.now.size.h c.loop-y.y _ c.loop-y.invariant.filled c.requires.count

pub loop-y-preserved : goal.loop-y-preserved
loop-y-preserved c =
    record {
      same = same_then c.loop-y.invariant.same c.fill_row.ensures.same;
      filled = row_more (axis_of c.args.axis) (seen_of c.args.view.now) (values_of c.args.values.now) c.loop-y.y _ c.loop-y.invariant.filled c.fill_row.ensures.filled;
    }

pub returns-clause-filled : goal.returns-clause-filled
returns-clause-filled c =
    axis_filled (axis_of c.args.axis) (seen_of c.args.view.now) (values_of c.args.values.now) c.args.view.now.size.h c.loop-y.y _
    c.loop-y.auto.y-end c.loop-y-test.false c.requires.count c.args.buffers.now.paired c.loop-y.invariant.filled
