-- `lanes::lane`: the tests that a visit asks on the way, asked after the work.
use Rattle.geometry.specs.Arith.{floats}
use Rattle.geometry.specs.Answer.{point2, corners_of}
use Rattle.geometry.specs.Vector.{flat}
use Rattle.geometry.specs.Formula.{areas, total, over_total}
use Rattle.geometry.specs.Leaf.{corner_weights, weighed_with_sum, weighed_all}
use Rattle.rules.specs.Scan.{depth_at}
use Rattle.lanes.proofs.Lanes.{lane_is}
use Rattle.lanes.proofs.lane.Goals as goal

pub returns : goal.returns
unfolding depth_at corner_weights weighed_with_sum weighed_all areas total over_total
returns c = let a = c.args in
    let s = corners_of a.s in
    let area = areas floats (point2 a.q) (flat s.p0) (flat s.p1) (flat s.p2) in
    rw (
      c.unless.ensures,
      c.counts.ensures,
      c.unless-weighed.ensures,
      c.unless-kept.ensures,
      c.dropped.ensures,
      c.blend-z.ensures,
      c.cross2-a0.ensures,
      c.cross2-a1.ensures,
      c.cross2-a2.ensures,
      c.flat-p0.ensures,
      c.flat-p1.ensures,
      c.flat-p2.ensures,
    )
    (lane_is a.side s area (total floats area))
