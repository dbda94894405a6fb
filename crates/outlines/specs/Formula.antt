-- Where an outline edge crosses the way from one pixel's centre to another's, what is mixed there, and how the crossing moves, over any arithmetic.
use Rattle.geometry.specs.Arith.{Arith}
use Rattle.geometry.specs.Vector.{Vec2, vec2}

-- an edge in the picture, in pixels: the projections of its two vertices
pub record Ends (A : Type 0) : Type 0 where
  pub q0 : Vec2 A
  pub q1 : Vec2 A

abbrev pub ends : {A : Type 0} → Vec2 A → Vec2 A → Ends A
ends q0 q1 = record { q0 = q0; q1 = q1 }

-- a crossing: rc is its place on the way from c0 to c1, re its place on the edge from q1 to q0, and both are over d
pub record Crossing (A : Type 0) : Type 0 where
  pub d : A
  pub rc : A
  pub re : A

module _ {A : Type 0} (R : Arith A) where
  open R use {add as ◌⊕◌, sub as ◌⊖◌, mul as ◌⊗◌, div as ◌⊘◌, neg, one}

  infixl 6 ◌⊕◌
  infixl 6 ◌⊖◌
  infixl 7 ◌⊗◌
  infixl 7 ◌⊘◌
  unfoldable pub minus2 : Vec2 A → Vec2 A → Vec2 A
  minus2 a b = vec2 (a.x ⊖ b.x) (a.y ⊖ b.y)

  -- a×b
  unfoldable pub perp_dot : Vec2 A → Vec2 A → A
  perp_dot a b = a.x ⊗ b.y ⊖ a.y ⊗ b.x

  unfoldable pub scaled2 : A → Vec2 A → Vec2 A
  scaled2 k a = vec2 (k ⊗ a.x) (k ⊗ a.y)

  -- "With u = c1−c0, v = q0−q1, d = u×v, the crossing is rc = (q1−c0)×v / d, re = (q1−c0)×u / d"; s is q1−c0
  unfoldable pub crossing_from : Vec2 A → Vec2 A → Vec2 A → Crossing A
  crossing_from u v s = record { d = perp_dot u v; rc = perp_dot s v ⊘ perp_dot u v; re = perp_dot s u ⊘ perp_dot u v }

  unfoldable pub crossing_of : Vec2 A → Vec2 A → Ends A → Crossing A
  crossing_of c0 c1 e = crossing_from (minus2 c1 c0) (minus2 e.q0 e.q1) (minus2 e.q1 c0)

  -- "g = dldr(v_y, −v_x)/d .."
  unfoldable pub crossing_gradient : A → Vec2 A → A → Vec2 A
  crossing_gradient dldr v d = vec2 (dldr ⊗ v.y ⊘ d) (dldr ⊗ neg v.x ⊘ d)

  -- ".. with (1−re)g to q1 and re·g to q0"
  unfoldable pub end_shares : A → Vec2 A → Ends A
  end_shares re g = ends (scaled2 re g) (scaled2 (one ⊖ re) g)

  -- of an edge and a crossing of it, with the incoming gradient of rc
  unfoldable pub crossing_backward : Ends A → Crossing A → A → Ends A
  crossing_backward e k dldr = end_shares k.re (crossing_gradient dldr (minus2 e.q0 e.q1) k.d)

  -- what smoothing makes of two values: r0 of the first and the rest of the second
  unfoldable pub mixed : A → A → A → A
  mixed r0 a b = r0 ⊗ a ⊕ (one ⊖ r0) ⊗ b
