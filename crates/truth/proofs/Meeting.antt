-- The ray and the plane: the forward weights and the backward ones are the same, and make the point where the ray meets the plane.
use Rattle.std.specs.Prelude.{◌≡◌, [], ◌∷◌}
use Rattle.std.proofs.Math.Path.{refl}
use Rattle.std.proofs.Common.{sym, ◌∙◌, ap}
use Rattle.geometry.specs.Arith.{Arith}
use Rattle.geometry.specs.Vector.{Vec3, vec3, weights, Triangle, triangle}
use Rattle.geometry.specs.Formula.{blend, point_from}
use Rattle.rays.specs.Space.{Ray, ray, minus3, dot3, cross3, along3}
use Rattle.rays.specs.Plane.{normal, distance, hit, weights_at, weights_on, plane_weights}
use Rattle.rays_bwd.specs.Backward.{framed, frame_of, meets_t, meets_u, meets_v, weighted, shared, backward_on, plane_backward}
use Rattle.truth.specs.Laws.{Laws, Invertible}
use Rattle.truth.specs.Solve.{Expr, var, :1, ◌:-◌, ◌:*◌, ◌∷₃◌, var3, exprs, fixed, from, eval, Equal, by_premise}
use Rattle.truth.specs.Meeting.{n_dot_n, D, t_of, u_of, v_of}
use Rattle.truth.proofs.Made.{weight0, weight1, weight2}

-- ---- the formulas as trees: the corners are variables 0 to 8, o and d 9 to 14, and 15 is 1 / D

abbrev E : Arith Expr
E = exprs (var 15)

abbrev corners : Triangle (Vec3 Expr)
corners = triangle (var3 0) (var3 3) (var3 6)

abbrev line : Ray Expr
line = ray (var3 9) (var3 12)

module _ {A : Type 0} (R : Arith A) (L : Laws R) (p : Triangle (Vec3 A)) (r : Ray A) (h : Invertible R (D R p r)) where
  open R use {div as ◌⊘◌, one}

  infixl 7 ◌⊘◌
  -- with 1 / D times for every division
  abbrev S : Arith A
  S = fixed R (one ⊘ D R p r)

  t_is : t_of R p r ≡ t_of S p r
  unfolding meets_t frame_of framed minus3 dot3 cross3
  t_is = L.div_is _ _

  u_is : u_of R p r ≡ u_of S p r
  unfolding meets_u frame_of framed minus3 dot3 cross3
  u_is = L.div_is _ _

  v_is : v_of R p r ≡ v_of S p r
  unfolding meets_v frame_of framed minus3 dot3 cross3
  v_is = L.div_is _ _

  meets_fixed : along3 R r (t_of S p r) ≡ point_from R (weighted R (u_of S p r) (v_of S p r)) p.p0 p.p1 p.p2
  unfolding Equal eval meets_t meets_u meets_v weighted frame_of framed minus3 dot3 cross3 along3 point_from blend
  meets_fixed =
      let ρ = from R (p.p0 ∷₃ p.p1 ∷₃ p.p2 ∷₃ r.org ∷₃ r.dir ∷₃ (one ⊘ D R p r) ∷ []) in
      let a = along3 E line (t_of E corners line) in
      let b = point_from E (weighted E (u_of E corners line) (v_of E corners line)) (var3 0) (var3 3) (var3 6) in
      let k = D E corners line :* var 15 in
      λ j.
      vec3 (by_premise R L ρ a.x b.x (var 0 :- var 9) k :1 h refl j)
      (by_premise R L ρ a.y b.y (var 1 :- var 10) k :1 h refl j)
      (by_premise R L ρ a.z b.z (var 2 :- var 11) k :1 h refl j)

  -- Where D can be divided by, the ray's point o + t d is the point that the backward formula's weights make of the corners, p0 + u e1 + v e2.
  pub meets : along3 R r (t_of R p r) ≡ point_from R (weighted R (u_of R p r) (v_of R p r)) p.p0 p.p1 p.p2
  meets =
      ap (along3 R r) t_is
      ∙ meets_fixed
      ∙ λ j. point_from R (weighted R (sym u_is j) (sym v_is j)) p.p0 p.p1 p.p2

-- ---- the forward weights of a point that is made from weights

module _ {A : Type 0} (R : Arith A) (L : Laws R) (p : Triangle (Vec3 A)) (b1 b2 : A) (h : Invertible R (n_dot_n R p)) where
  abbrev q : Vec3 A
  q = point_from R (weighted R b1 b2) p.p0 p.p1 p.p2

  weights-made : weights_at R p (normal R p) q ≡ weighted R b1 b2
  unfolding weights_at weighted
  weights-made = λ i. weights (weight0 R L p b1 b2 h i) (weight1 R L p b1 b2 h i) (weight2 R L p b1 b2 h i)

-- Where D and n·n can be divided by, the forward weights of a pixel are the weights of its backward pass.
pub weights_agree : {A : Type 0} (R : Arith A) → Laws R → (p : Triangle (Vec3 A)) (r : Ray A) (dt du dv : A)
    → Invertible R (D R p r)
    → Invertible R (n_dot_n R p)
    → plane_weights R p r ≡ (plane_backward R p r dt du dv).bc
unfolding plane_weights weights_on hit distance normal meets_t frame_of framed plane_backward backward_on shared
weights_agree R L p r dt du dv h k = ap (weights_at R p (normal R p)) (meets R L p r h) ∙ weights-made R L p (u_of R p r) (v_of R p r) k
