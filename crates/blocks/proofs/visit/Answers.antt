-- `blocks::visit`: no weights, a sum that is not counted, dropped, or a depth that is brought.
use Rattle.std.specs.Prelude.{refl}
use Rattle.std.proofs.Common.{ap, rules}
use Rattle.geometry.specs.Answer.{corner_weights_of, corners_of}
use Rattle.cells.specs.Lent.{held}
use Rattle.pixels.specs.Pixel.{centre_of}
use Rattle.lanes.specs.Answer.{within}
use Rattle.blocks.proofs.One.{unweighed, not-counted, dropped_there, kept_there, depth_brought, nothing-brought}
use Rattle.blocks.proofs.visit.Goals as goal

pub returns-in_default-clause-visited : goal.returns-in_default-clause-visited
unfolding centre_of
returns-in_default-clause-visited c = let a = c.args in
    let b = a.b.now in
    let seen = rw (c.centre_of.ensures, c.flat.ensures, c.flat-2.ensures, c.flat-3.ensures) at c.corner_weights.ensures in
    nothing-brought (within b.side) (corners_of b.screen) b.number a.layer.now.size.w a.p.x a.p.y (held a.layer.now) c.requires.in_row refl refl
    (unweighed (within b.side) (corners_of b.screen) _ seen (ap corner_weights_of c.in_default.is))

pub returns-then-not-counts-clause-visited : goal.returns-then-not-counts-clause-visited
unfolding centre_of
returns-then-not-counts-clause-visited c = let a = c.args in
    let b = a.b.now in
    let seen = rw (c.centre_of.ensures, c.flat.ensures, c.flat-2.ensures, c.flat-3.ensures) at c.corner_weights.ensures in
    nothing-brought (within b.side) (corners_of b.screen) b.number a.layer.now.size.w a.p.x a.p.y (held a.layer.now) c.requires.in_row refl refl
    (not-counted (within b.side) (corners_of b.screen) _ seen _ (ap corner_weights_of c.in-Some.is) (search rules))

pub returns-then-dropped-clause-visited : goal.returns-then-dropped-clause-visited
unfolding centre_of
returns-then-dropped-clause-visited c = let a = c.args in
    let b = a.b.now in
    let seen = rw (c.centre_of.ensures, c.flat.ensures, c.flat-2.ensures, c.flat-3.ensures) at c.corner_weights.ensures in
    nothing-brought (within b.side) (corners_of b.screen) b.number a.layer.now.size.w a.p.x a.p.y (held a.layer.now) c.requires.in_row refl refl
    (dropped_there (within b.side) (corners_of b.screen) _ seen _ (ap corner_weights_of c.in-Some.is) (search rules) (search rules))

pub returns-clause-visited : goal.returns-clause-visited
unfolding centre_of
returns-clause-visited c = let a = c.args in
    let b = a.b.now in
    let seen = rw (c.centre_of.ensures, c.flat.ensures, c.flat-2.ensures, c.flat-3.ensures) at c.corner_weights.ensures in
    depth_brought (within b.side) (corners_of b.screen) b.number a.layer.now.size.w a.p.x a.p.y (held a.layer.now) c.requires.in_row refl refl
    (kept_there (within b.side) (corners_of b.screen) _ seen _ (ap corner_weights_of c.in-Some.is) (search rules) (search rules) c.blend-depth.ensures)
    (rw c.number.ensures.number at c.put.ensures.stepped)
