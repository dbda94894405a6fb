use Rattle.lists.specs.Laws.Tests.{so}
use Rattle.geometry.specs.Answer.{point2}
use Rattle.tris.specs.Laws.{inside_is, world_is}
use Rattle.unwraps.proofs.beside_empty_ok.Goals as goal

pub returns-then-is_inside : goal.returns-then-is_inside
returns-then-is_inside c = rw (inside_is c.new-t.ensures (point2 c.args.other), so c.is_inside.ensures c.if-is_inside.true) c.if-is_inside.true

pub returns-else-is_inside : goal.returns-else-is_inside
returns-else-is_inside c = rw (inside_is c.new-t.ensures (point2 c.args.other), so c.is_inside.ensures c.if-is_inside.false, world_is c.new-t.ensures (point2 c.args.own.centre)) c.has_world.ensures
