use Rattle.lists.specs.Laws.Tests.{so}
use Rattle.geometry.specs.Answer.{point2}
use Rattle.meshes.specs.Answer.{face_of}
use Rattle.meshes.specs.Sums.{summed}
use Rattle.shares.proofs.Cases.{both_added, first_added, second_added, none_added}
use Rattle.shares.proofs.scatter_between.Goals as goal

pub returns-then-is_inside : goal.returns-then-is_inside
returns-then-is_inside c =
    let a = c.args in
    let v = a.pairs.now.view in
    rw (
    ← (both_added a.pairs.now.axis.down v.m.now v.mesh.vtx2xyz.now (face_of a.first.face) (face_of a.second.face) (point2 a.first.centre) (point2 a.second.centre) a.d c.new-t0.ensures
    (so c.face_contains.ensures c.if-face_contains.true) c.new-t1.ensures (so c.is_inside.ensures c.if-is_inside.true))
    )
    c.scatter_intersection_gradient.ensures

pub returns-else-is_inside : goal.returns-else-is_inside
returns-else-is_inside c =
    let a = c.args in
    let v = a.pairs.now.view in
    rw (
      ← (first_added a.pairs.now.axis.down v.m.now v.mesh.vtx2xyz.now (face_of a.first.face) (face_of a.second.face) (point2 a.first.centre) (point2 a.second.centre) a.d c.new-t0.ensures
          (so c.face_contains.ensures c.if-face_contains.true) (so c.is_inside.ensures c.if-is_inside.false)),
      ← c.along-g.ensures,
    )
    c.scatter.ensures

pub returns-then-face_contains-2 : goal.returns-then-face_contains-2
returns-then-face_contains-2 c =
    let a = c.args in
    let v = a.pairs.now.view in
    rw (
      ← (second_added a.pairs.now.axis.down v.m.now v.mesh.vtx2xyz.now (face_of a.first.face) (face_of a.second.face) (point2 a.first.centre) (point2 a.second.centre) a.d
          (so c.face_contains.ensures c.if-face_contains.false) c.new-t1-then-face_contains-2.ensures (so c.face_contains-else-face_contains.ensures c.if-face_contains-2.true)),
      ← c.along-g-then-face_contains-2.ensures,
    )
    c.scatter-then-face_contains-2.ensures

pub returns-else-face_contains-2 : goal.returns-else-face_contains-2
unfolding summed
returns-else-face_contains-2 c =
    let a = c.args in
    let v = a.pairs.now.view in
    rw (
    ← (none_added a.pairs.now.axis.down v.m.now v.mesh.vtx2xyz.now (face_of a.first.face) (face_of a.second.face) (point2 a.first.centre) (point2 a.second.centre) a.d
    (so c.face_contains.ensures c.if-face_contains.false) (so c.face_contains-else-face_contains.ensures c.if-face_contains-2.false))
    )
