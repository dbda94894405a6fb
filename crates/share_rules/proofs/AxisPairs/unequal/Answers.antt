use Rattle.std.proofs.Common.{◌∙◌, sym}
use Rattle.pairs.specs.Answer.{axis_of}
use Rattle.share_rules.specs.Laws.{shares_equal, shares_unequal, first-projects, second-projects}
use Rattle.share_rules.proofs.AxisPairs.unequal.Goals as goal

pub returns-then-pair : goal.returns-then-pair
returns-then-pair c =
    let v = c.args.self.now.view in shares_equal v.mesh.tri2vtx.now v.m.now v.mesh.vtx2xyz.now (axis_of c.args.self.now.axis) c.seen_pair-pair.ensures.pair c.if-pair.true

pub returns : goal.returns
returns c =
    let v = c.args.self.now.view in
    let a = axis_of c.args.self.now.axis in
    let tri = v.mesh.tri2vtx.now in
    let m = v.m.now in
    let xyz = v.mesh.vtx2xyz.now in
    let k = c.seen_pair-pair.ensures.pair in
    let ne = c.if-pair.false in
    let ok = c.requires.answered in
    let first = c.named-first.ensures in
    let second = c.named-second.ensures in
    record {
      p_number = k.p_number;
      p_below = k.p_below;
      q_number = k.q_number;
      q_below = k.q_below;
      projects = c.new.ensures.projects m xyz (first-projects tri m xyz k ne ok _ first.among first.face) (second-projects tri m xyz k ne ok _ second.among second.face);
      shares =
          rw (first.face, second.face, c.centre_of-q0.ensures, c.centre_of-q1.ensures, c.neighbour.ensures.column, c.neighbour.ensures.row)
          (shares_unequal tri m xyz a k ne)
          ∙ sym (c.new.ensures.shares a.down m xyz);
    }
