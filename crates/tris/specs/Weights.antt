-- The weights of a point in a projected face: `barycentric_world`.
use Rattle.std.specs.Prelude.{◌&&◌, cond, Float}
use Rattle.std.proofs.Math.Option.{Option, none, some}
use Rattle.std.specs.Float.Ieee.Scale.{finite}
use Rattle.geometry.specs.Arith.{floats}
use Rattle.geometry.specs.Vector.{Vec2, Weights, weights, Weighed, Projected, Triangle}
use Rattle.geometry.specs.Leaf.{weighed_all}
use Rattle.inside.specs.Inside.{weights_in}

-- `barycentric_world`: each weight over its corner's divisor ..
unfoldable pub over_divisors : Triangle (Projected Float) → Weights Float → Weights Float
over_divisors t b = weights (floats.div b.b0 t.p0.w) (floats.div b.b1 t.p1.w) (floats.div b.b2 t.p2.w)

-- .. then over their sum, none when that is 0 or not finite (`weighed_all`), and none when a weight so made is not finite
unfoldable pub finite_all : Option (Weights Float) → Option (Weights Float)
finite_all none = none
finite_all (some b) = cond (finite b.b0 && (finite b.b1 && finite b.b2)) (some b) none

unfoldable pub to_world : Triangle (Projected Float) → Option (Weighed Float) → Option (Weights Float)
to_world t none = none
to_world t (some a) = finite_all (weighed_all (over_divisors t a.b))

-- of the point q in a projected face; none, too, where a corner has no projection, which question 8 refuses
unfoldable pub world_in : Vec2 Float → Option (Triangle (Projected Float)) → Option (Weights Float)
world_in q none = none
world_in q (some t) = to_world t (weights_in q (some t))
