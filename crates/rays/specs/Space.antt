-- Vectors and rays in space, over any arithmetic. Sums run left to right.
use Rattle.geometry.specs.Arith.{Arith}
use Rattle.geometry.specs.Vector.{Vec3, vec3}

-- an origin, and a direction
pub record Ray (A : Type 0) : Type 0 where
  pub org : Vec3 A
  pub dir : Vec3 A

abbrev pub ray : {A : Type 0} → Vec3 A → Vec3 A → Ray A
ray o d = record { org = o; dir = d }

module _ {A : Type 0} (R : Arith A) where
  open R use {add as ◌⊕◌, sub as ◌⊖◌, mul as ◌⊗◌, div as ◌⊘◌, one}

  infixl 6 ◌⊕◌
  infixl 6 ◌⊖◌
  infixl 7 ◌⊗◌
  infixl 7 ◌⊘◌
  unfoldable pub minus3 : Vec3 A → Vec3 A → Vec3 A
  minus3 a b = vec3 (a.x ⊖ b.x) (a.y ⊖ b.y) (a.z ⊖ b.z)

  unfoldable pub dot3 : Vec3 A → Vec3 A → A
  dot3 a b = a.x ⊗ b.x ⊕ a.y ⊗ b.y ⊕ a.z ⊗ b.z

  unfoldable pub cross3 : Vec3 A → Vec3 A → Vec3 A
  cross3 a b = vec3 (a.y ⊗ b.z ⊖ a.z ⊗ b.y) (a.z ⊗ b.x ⊖ a.x ⊗ b.z) (a.x ⊗ b.y ⊖ a.y ⊗ b.x)

  unfoldable pub scaled3 : A → Vec3 A → Vec3 A
  scaled3 k a = vec3 (k ⊗ a.x) (k ⊗ a.y) (k ⊗ a.z)

  -- o + t·d
  unfoldable pub along3 : Ray A → A → Vec3 A
  along3 r t = vec3 (r.org.x ⊕ t ⊗ r.dir.x) (r.org.y ⊕ t ⊗ r.dir.y) (r.org.z ⊕ t ⊗ r.dir.z)

  -- Pixel (px,py): x = (2px)/w − 1 ..
  unfoldable pub across : A → A → A
  across px w = (one ⊕ one) ⊗ px ⊘ w ⊖ one

  -- .. y = 1 − (2py)/h
  unfoldable pub down : A → A → A
  down py h = one ⊖ (one ⊕ one) ⊗ py ⊘ h
