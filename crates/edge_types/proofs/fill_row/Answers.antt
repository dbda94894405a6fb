use Rattle.std.proofs.Common.{◌∙◌, ap₂, arith}
use Rattle.pairs.specs.Answer.{axis_of, seen_of}
use Rattle.pairs.specs.Values.{values_of}
use Rattle.pairs.specs.Gradient.{dldr}
use Rattle.edge_types.proofs.Filling.{pairs_none, pair_filled, place_there}
use Rattle.edge_types.proofs.Kept.{same_none, same_then}
use Rattle.edge_types.proofs.fill_row.Goals as goal

pub loop-x-init : goal.loop-x-init
loop-x-init c = record { same = same_none _; filled = pairs_none _ _ _ _ _ }

pub put-requires : goal.put-requires
put-requires c =
    place_there (axis_of c.args.axis) (seen_of c.args.view.now) (values_of c.args.values.now) c.args.view.now.size.h c.args.y c.loop-x.x _
    c.loop-x-test.true (omega arith) c.requires.count c.loop-x.invariant.filled

pub loop-x-preserved : goal.loop-x-preserved
loop-x-preserved c =
    let k = c.seen_pair-pair.ensures.pair in
    record {
      same = same_then c.loop-x.invariant.same c.put.ensures.same;
      filled =
          c.put.ensures.put
          ∙ pair_filled (axis_of c.args.axis) (seen_of c.args.view.now) (values_of c.args.values.now) c.args.y c.loop-x.x _
          c.loop-x-test.true c.loop-x.invariant.filled c.edge_type-kind.ensures (c.dldr-dldr.ensures ∙ ap₂ (dldr _) k.p_number k.q_number);
    }
