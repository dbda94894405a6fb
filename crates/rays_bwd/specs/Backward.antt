-- 01's backward formula: from the gradients of t, u and v to those of the three corners, over any arithmetic.
use Rattle.geometry.specs.Arith.{Arith}
use Rattle.geometry.specs.Vector.{Vec3, vec3, Weights, weights, Triangle, triangle}
use Rattle.rays.specs.Space.{Ray, minus3, dot3, cross3, scaled3}

-- e1×e2, e2×d, d×e1 and D
pub record Frame (A : Type 0) : Type 0 where
  pub e1e2 : Vec3 A
  pub e2d : Vec3 A
  pub de1 : Vec3 A
  pub det : A

abbrev pub frame : {A : Type 0} → Vec3 A → Vec3 A → Vec3 A → A → Frame A
frame e1e2 e2d de1 det = record { e1e2 = e1e2; e2d = e2d; de1 = de1; det = det }

-- the weights (1−u−v), u, v, and each corner's share
pub record Gradients (A : Type 0) : Type 0 where
  pub bc : Weights A
  pub to : Triangle (Vec3 A)

abbrev pub gradients : {A : Type 0} → Weights A → Triangle (Vec3 A) → Gradients A
gradients bc to = record { bc = bc; to = to }

module _ {A : Type 0} (R : Arith A) where
  open R use {sub as ◌⊖◌, mul as ◌⊗◌, div as ◌⊘◌, neg, one}

  infixl 6 ◌⊖◌
  infixl 7 ◌⊗◌
  infixl 7 ◌⊘◌
  -- "with e1, e2 the sides from p0, D = d·(e1×e2)"
  unfoldable pub framed : Vec3 A → Vec3 A → Vec3 A → Frame A
  framed d e1 e2 = frame (cross3 R e1 e2) (cross3 R e2 d) (cross3 R d e1) (dot3 R d (cross3 R e1 e2))

  unfoldable pub frame_of : Triangle (Vec3 A) → Ray A → Frame A
  frame_of p r = framed r.dir (minus3 R p.p1 p.p0) (minus3 R p.p2 p.p0)

  -- s = p0−o: t = s·(e1×e2)/D ..
  unfoldable pub meets_t : Frame A → Vec3 A → A
  meets_t f s = dot3 R s f.e1e2 ⊘ f.det

  -- .. u = −(s·(e2×d))/D ..
  unfoldable pub meets_u : Frame A → Vec3 A → A
  meets_u f s = neg (dot3 R s f.e2d) ⊘ f.det

  -- .. v = −(s·(d×e1))/D
  unfoldable pub meets_v : Frame A → Vec3 A → A
  meets_v f s = neg (dot3 R s f.de1) ⊘ f.det

  unfoldable pub weighted : A → A → Weights A
  weighted u v = weights (one ⊖ u ⊖ v) u v

  -- g = (dt(e1×e2) − du(e2×d) − dv(d×e1))/D, one coordinate ..
  unfoldable pub gradient_on : A → A → A → A → A → A → A → A
  gradient_on dt du dv det e1e2 e2d de1 = (dt ⊗ e1e2 ⊖ du ⊗ e2d ⊖ dv ⊗ de1) ⊘ det

  -- .. and all three
  unfoldable pub gradient : Frame A → A → A → A → Vec3 A
  gradient f dt du dv =
      vec3 (gradient_on dt du dv f.det f.e1e2.x f.e2d.x f.de1.x)
      (gradient_on dt du dv f.det f.e1e2.y f.e2d.y f.de1.y)
      (gradient_on dt du dv f.det f.e1e2.z f.e2d.z f.de1.z)

  -- shares (1−u−v)g, ug, vg
  unfoldable pub shares : Weights A → Vec3 A → Triangle (Vec3 A)
  shares b g = triangle (scaled3 R b.b0 g) (scaled3 R b.b1 g) (scaled3 R b.b2 g)

  unfoldable pub shared : Weights A → Vec3 A → Gradients A
  shared b g = gradients b (shares b g)

  unfoldable pub backward_on : Frame A → Vec3 A → A → A → A → Gradients A
  backward_on f s dt du dv = shared (weighted (meets_u f s) (meets_v f s)) (gradient f dt du dv)

  -- "with dt, du, dv the incoming gradients of t, u and v"
  unfoldable pub plane_backward : Triangle (Vec3 A) → Ray A → A → A → A → Gradients A
  plane_backward p r dt du dv = backward_on (frame_of p r) (minus3 R p.p0 r.org) dt du dv
