-- What a share in the image brings its vertex, over any arithmetic.
use Rattle.geometry.specs.Arith.{Arith}
use Rattle.geometry.specs.Vector.{Vec2, Vec3, vec3}
use Rattle.jacobians.specs.Formula.{Mat3}

module _ {A : Type 0} (R : Arith A) where
  open R use {add as ◌⊕◌, mul as ◌⊗◌}

  infixl 6 ◌⊕◌
  infixl 7 ◌⊗◌
  -- "a share (a, b) adds j[3k]a + j[3k+1]b to entry k of its vertex"
  unfoldable pub pulled_back : Mat3 A → Vec2 A → Vec3 A
  pulled_back j g = vec3 (j.c0.x ⊗ g.x ⊕ j.c0.y ⊗ g.y) (j.c1.x ⊗ g.x ⊕ j.c1.y ⊗ g.y) (j.c2.x ⊗ g.x ⊕ j.c2.y ⊗ g.y)
