-- Points that move: each coordinate with its movement at ε. Rays and incoming gradients do not move.
use Rattle.std.specs.Prelude.{ℕ}
use Rattle.geometry.specs.Arith.{Arith}
use Rattle.geometry.specs.Vector.{Vec2, vec2, Vec3, vec3, Weights, weights, Triangle, triangle}
use Rattle.rays.specs.Space.{Ray, ray, dot3}
use Rattle.truth.specs.Dual.{Dual, dual, still}

-- a point and its movement
abbrev pub moving2 : {A : Type 0} → Vec2 A → Vec2 A → Vec2 (Dual A)
moving2 a m = vec2 (dual a.x m.x) (dual a.y m.y)

abbrev pub moving3 : {A : Type 0} → Vec3 A → Vec3 A → Vec3 (Dual A)
moving3 a m = vec3 (dual a.x m.x) (dual a.y m.y) (dual a.z m.z)

abbrev pub moving : {A : Type 0} → Triangle (Vec3 A) → Triangle (Vec3 A) → Triangle (Vec3 (Dual A))
moving p m = triangle (moving3 p.p0 m.p0) (moving3 p.p1 m.p1) (moving3 p.p2 m.p2)

-- the three corners' values, channel by channel, and their movement
abbrev pub moving_values : {A : Type 0} → Triangle (ℕ → A) → Triangle (ℕ → A) → Triangle (ℕ → Dual A)
moving_values x y = triangle (λ j. dual (x.p0 j) (y.p0 j)) (λ j. dual (x.p1 j) (y.p1 j)) (λ j. dual (x.p2 j) (y.p2 j))

module _ {A : Type 0} (R : Arith A) where
  open R use {add as ◌⊕◌}

  infixl 6 ◌⊕◌
  abbrev pub still2 : Vec2 A → Vec2 (Dual A)
  still2 a = vec2 (still R a.x) (still R a.y)

  abbrev pub still3 : Vec3 A → Vec3 (Dual A)
  still3 a = vec3 (still R a.x) (still R a.y) (still R a.z)

  abbrev pub still_weights : Weights A → Weights (Dual A)
  still_weights b = weights (still R b.b0) (still R b.b1) (still R b.b2)

  abbrev pub still_ray : Ray A → Ray (Dual A)
  still_ray r = ray (still3 r.org) (still3 r.dir)

  -- ⟨g, m⟩: what the gradients of three corners say of the corners' movement
  unfoldable pub inner : Triangle (Vec3 A) → Triangle (Vec3 A) → A
  inner g m = dot3 R g.p0 m.p0 ⊕ dot3 R g.p1 m.p1 ⊕ dot3 R g.p2 m.p2
