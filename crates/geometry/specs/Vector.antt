-- Points of the plane and of space, the three weights of a corner each, and a projected point with the divisor that made it.

pub record Vec2 (A : Type 0) : Type 0 where
  pub x : A
  pub y : A

pub record Vec3 (A : Type 0) : Type 0 where
  pub x : A
  pub y : A
  pub z : A

abbrev pub vec2 : {A : Type 0} → A → A → Vec2 A
vec2 x y = record { x = x; y = y }

abbrev pub vec3 : {A : Type 0} → A → A → A → Vec3 A
vec3 x y z = record { x = x; y = y; z = z }

-- a point seen from the front: its first two coordinates
abbrev pub flat : {A : Type 0} → Vec3 A → Vec2 A
flat p = vec2 p.x p.y

pub record Weights (A : Type 0) : Type 0 where
  pub b0 : A
  pub b1 : A
  pub b2 : A

abbrev pub weights : {A : Type 0} → A → A → A → Weights A
weights b0 b1 b2 = record { b0 = b0; b1 = b1; b2 = b2 }

-- weights b, and the sum s of the areas that they are over
pub record Weighed (A : Type 0) : Type 0 where
  pub b : Weights A
  pub s : A

abbrev pub weighed_by : {A : Type 0} → Weights A → A → Weighed A
weighed_by b s = record { b = b; s = s }

-- a projected point p, and the divisor w that it came from
pub record Projected (A : Type 0) : Type 0 where
  pub p : Vec3 A
  pub w : A

abbrev pub projected : {A : Type 0} → Vec3 A → A → Projected A
projected p w = record { p = p; w = w }

-- three corners in order
pub record Triangle (P : Type 0) : Type 0 where
  pub p0 : P
  pub p1 : P
  pub p2 : P

abbrev pub triangle : {P : Type 0} → P → P → P → Triangle P
triangle p0 p1 p2 = record { p0 = p0; p1 = p1; p2 = p2 }
