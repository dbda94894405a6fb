-- `blocks::visit_four`: four lanes, each with its mask, and four visits.
use Rattle.std.proofs.Common.{arith}
use Rattle.geometry.specs.Answer.{corners_of}
use Rattle.cells.specs.Lent.{held}
use Rattle.lanes.specs.Answer.{within}
use Rattle.blocks.proofs.Centres.{on_1, on_2, on_3}
use Rattle.blocks.proofs.Four.{four_done}
use Rattle.blocks.proofs.visit_four.Goals as goal

pub returns-clause-visited : goal.returns-clause-visited
returns-clause-visited c = let a = c.args in
    let b = a.b.now in
    let size = a.layer.now.size in
    let need = c.requires in
    let near = size.sized.h_most in
    four_done (within b.side) (corners_of b.screen) b.number size.w size.h a.p.x a.y1 size.sized need.in_row need.most (omega (arith, need.some)) need.column c.centre-end.ensures
    (held a.layer.now) a.p.y a.layer.now.spans need.in_column need.some need.row
    (on_1 a.q.y a.p.y need.row (omega (arith, need.in_column)))
    (on_2 a.q.y a.p.y need.row (omega (arith, need.in_column)))
    (on_3 a.q.y a.p.y need.row (omega (arith, need.in_column)))
    c.lane-z0.ensures
    c.lane-z1.ensures
    c.lane-z2.ensures
    c.lane-z3.ensures
    c.up_to-m0.ensures
    c.up_to-m1.ensures
    c.up_to-m2.ensures
    c.up_to-m3.ensures
    c.visit_greater.ensures.visited
