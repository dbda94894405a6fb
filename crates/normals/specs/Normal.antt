-- The unit normal of a triangle.
use Rattle.std.specs.Prelude.{Float}
use Rattle.std.specs.Float.{binary32}
use Rattle.roots.specs.Root.{root}
use Rattle.geometry.specs.Arith.{Arith, floats}
use Rattle.geometry.specs.Vector.{Vec3, vec3, Triangle}
use Rattle.rays.specs.Space.{dot3}
use Rattle.rays.specs.Plane.{normal}

-- a vector over a number, over any arithmetic
module _ {A : Type 0} (R : Arith A) where
  open R use {div as ◌⊘◌}

  infixl 7 ◌⊘◌
  unfoldable pub over3 : Vec3 A → A → Vec3 A
  over3 n r = vec3 (n.x ⊘ r) (n.y ⊘ r) (n.z ⊘ r)

-- "n over the f32 root of n·n"
unfoldable pub unit : Vec3 Float → Vec3 Float
unit n = over3 floats n (root binary32 (dot3 floats n n))

unfoldable pub unit_normal : Triangle (Vec3 Float) → Vec3 Float
unit_normal p = unit (normal floats p)
