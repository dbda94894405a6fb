-- Where a ray meets the plane of a triangle, and the weights there, over any arithmetic.
use Rattle.geometry.specs.Arith.{Arith}
use Rattle.geometry.specs.Vector.{Vec3, Weights, weights, Triangle}
use Rattle.rays.specs.Space.{Ray, minus3, dot3, cross3, along3}

module _ {A : Type 0} (R : Arith A) where
  open R use {div as ◌⊘◌}

  infixl 7 ◌⊘◌
  -- n = (p1−p0)×(p2−p0)
  unfoldable pub normal : Triangle (Vec3 A) → Vec3 A
  normal p = cross3 R (minus3 R p.p1 p.p0) (minus3 R p.p2 p.p0)

  -- t = (p0−o)·n / d·n
  unfoldable pub distance : Vec3 A → Vec3 A → Ray A → A
  distance p0 n r = dot3 R (minus3 R p0 r.org) n ⊘ dot3 R r.dir n

  -- q = o + t·d
  unfoldable pub hit : Vec3 A → Vec3 A → Ray A → Vec3 A
  hit p0 n r = along3 R r (distance p0 n r)

  -- ((p1−q)×(p2−q))·n / n·n
  unfoldable pub weight : Vec3 A → Vec3 A → Vec3 A → Vec3 A → A
  weight n q p1 p2 = dot3 R (cross3 R (minus3 R p1 q) (minus3 R p2 q)) n ⊘ dot3 R n n

  -- .. then p2,p0, then p0,p1
  unfoldable pub weights_at : Triangle (Vec3 A) → Vec3 A → Vec3 A → Weights A
  weights_at p n q = weights (weight n q p.p1 p.p2) (weight n q p.p2 p.p0) (weight n q p.p0 p.p1)

  unfoldable pub weights_on : Triangle (Vec3 A) → Vec3 A → Ray A → Weights A
  weights_on p n r = weights_at p n (hit p.p0 n r)

  -- the weights of the point where the ray meets the triangle's plane
  unfoldable pub plane_weights : Triangle (Vec3 A) → Ray A → Weights A
  plane_weights p r = weights_on p (normal p) r
