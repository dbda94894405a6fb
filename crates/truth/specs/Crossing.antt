-- The smoothing of outlines: an outline edge while its ends move, and what its backward formula says of their movement. The pixels' centres do not move.
use Rattle.std.specs.Prelude.{ℕ, Bool, true, false}
use Rattle.geometry.specs.Arith.{Arith}
use Rattle.geometry.specs.Vector.{Vec2, vec2, flat, Vec3}
use Rattle.rays.specs.Space.{dot3}
use Rattle.jacobians.specs.Formula.{project_untested, jacobian}
use Rattle.outlines.specs.Formula.{Ends, ends, Crossing, crossing_of, crossing_backward}
use Rattle.antialias_bwd.specs.Formula.{pulled_back}
use Rattle.truth.specs.Dual.{Dual, duals}
use Rattle.truth.specs.Moving.{moving2, moving3, still2}
use Rattle.truth.specs.Projection.{still_matrix}

abbrev pub moving_ends : {A : Type 0} → Ends A → Ends A → Ends (Dual A)
moving_ends e m = ends (moving2 e.q0 m.q0) (moving2 e.q1 m.q1)

module _ {A : Type 0} (R : Arith A) where
  open R use {add as ◌⊕◌, sub as ◌⊖◌, mul as ◌⊗◌}

  infixl 6 ◌⊕◌
  infixl 6 ◌⊖◌
  infixl 7 ◌⊗◌
  -- the point a + k u
  unfoldable pub along2 : Vec2 A → A → Vec2 A → Vec2 A
  along2 a k u = vec2 (a.x ⊕ k ⊗ u.x) (a.y ⊕ k ⊗ u.y)

  unfoldable pub dot2 : Vec2 A → Vec2 A → A
  dot2 a b = a.x ⊗ b.x ⊕ a.y ⊗ b.y

  -- ⟨g, m⟩: what the gradients of two ends say of the ends' movement
  unfoldable pub inner_ends : Ends A → Ends A → A
  inner_ends g m = dot2 g.q0 m.q0 ⊕ dot2 g.q1 m.q1

  -- r0, what the first value is mixed with: where rc is below half, and where it is not
  unfoldable pub part : Bool → A → A → A
  part true half rc = half ⊕ rc
  part false half rc = rc ⊖ half

  -- the vertex p in the picture
  unfoldable pub seen : (ℕ → A) → Vec3 A → Vec2 A
  seen m p = flat (project_untested R m p).p

  -- the edge of the vertices p0 and p1 in the picture
  unfoldable pub edge_seen : (ℕ → A) → Vec3 A → Vec3 A → Ends A
  edge_seen m p0 p1 = ends (seen m p0) (seen m p1)

  -- what the pass adds to the edge's vertices for one crossing of it, whose rc has the incoming gradient dldr, against their movement
  unfoldable pub outline_inner : (ℕ → A) → Vec2 A → Vec2 A → Vec3 A → Vec3 A → A → Vec3 A → Vec3 A → A
  outline_inner m c0 c1 p0 p1 dldr m0 m1 =
      let e = edge_seen m p0 p1 in
      let g = crossing_backward R e (crossing_of R c0 c1 e) dldr in
      dot3 R (pulled_back R (jacobian R m p0) g.q0) m0 ⊕ dot3 R (pulled_back R (jacobian R m p1) g.q1) m1

-- the movement of the vertex p in the picture
abbrev pub seen_moves : {A : Type 0} → Arith A → (ℕ → A) → Vec3 A → Vec3 A → Vec2 A
seen_moves R m p dp = let q = seen (duals R) (still_matrix R m) (moving3 p dp) in vec2 q.x.eps q.y.eps

-- the crossing while the ends move, and while the vertices do

abbrev pub crossing_moves : {A : Type 0} → Arith A → Vec2 A → Vec2 A → Ends A → Ends A → Crossing (Dual A)
crossing_moves R c0 c1 e m = crossing_of (duals R) (still2 R c0) (still2 R c1) (moving_ends e m)

abbrev pub outline_moves : {A : Type 0} → Arith A → (ℕ → A) → Vec2 A → Vec2 A → Vec3 A → Vec3 A → Vec3 A → Vec3 A → Crossing (Dual A)
outline_moves R m c0 c1 p0 p1 m0 m1 = crossing_of (duals R) (still2 R c0) (still2 R c1) (edge_seen (duals R) (still_matrix R m) (moving3 p0 m0) (moving3 p1 m1))
