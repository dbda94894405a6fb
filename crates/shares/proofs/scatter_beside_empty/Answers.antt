use Rattle.lists.specs.Laws.Tests.{so}
use Rattle.geometry.specs.Answer.{point2}
use Rattle.meshes.specs.Sums.{summed}
use Rattle.shares.proofs.Cases.{beside_none, beside_one}
use Rattle.shares.proofs.scatter_beside_empty.Goals as goal

pub returns-then-is_inside : goal.returns-then-is_inside
unfolding summed
returns-then-is_inside c =
    let a = c.args in
    rw (beside_none c.new-t.ensures a.pairs.now.axis.down (point2 a.own.centre) (point2 a.other) a.d (so c.is_inside.ensures c.if-is_inside.true))

pub returns : goal.returns
returns c =
    let a = c.args in
    rw (← (beside_one c.new-t.ensures a.pairs.now.axis.down (point2 a.own.centre) (point2 a.other) a.d (so c.is_inside.ensures c.if-is_inside.false)), ← c.along-g.ensures)
    c.scatter.ensures
