-- What the shares say of a movement of the corners, and what the gradient g says of t, u and v.
use Rattle.std.specs.Prelude.{◌≡◌, [], ◌∷◌}
use Rattle.std.proofs.Math.Path.{refl, ap}
use Rattle.std.proofs.Common.{◌∙◌}
use Rattle.geometry.specs.Arith.{Arith}
use Rattle.geometry.specs.Vector.{Vec3, Weights, weights, Triangle, triangle}
use Rattle.geometry.specs.Formula.{blend, point_from}
use Rattle.rays.specs.Space.{minus3, dot3, cross3, scaled3}
use Rattle.rays_bwd.specs.Backward.{Frame, framed, gradient_on, gradient, shares}
use Rattle.truth.specs.Laws.{Laws, Invertible}
use Rattle.truth.specs.Solve.{same3, var, :0, :1, ◌:+◌, ◌:*◌, ◌∷₃◌, var3, exprs, fixed, from, eval, Equal, by_ring, by_premise}
use Rattle.truth.specs.Moving.{inner}
use Rattle.truth.specs.Shares.{within}

module _ {A : Type 0} (R : Arith A) (L : Laws R) where
  open R use {div as ◌⊘◌, one}

  infixl 7 ◌⊘◌
  -- the shares of g, against the movement of the point that the weights make
  pub shared_out : (b : Weights A) (g : Vec3 A) (m : Triangle (Vec3 A)) → inner R (shares R b g) m ≡ dot3 R g (point_from R b m.p0 m.p1 m.p2)
  unfolding Equal eval inner shares scaled3 point_from blend dot3
  shared_out b g m =
      let E = exprs :0 in
      let w = weights (var 0) (var 1) (var 2) in
      let corners = triangle (var3 6) (var3 9) (var3 12) in
      by_ring R L (from R (b.b0 ∷ b.b1 ∷ b.b2 ∷ g ∷₃ m.p0 ∷₃ m.p1 ∷₃ m.p2 ∷₃ []))
      (inner E (shares E w (var3 3)) corners) (dot3 E (var3 3) (point_from E w (var3 6) (var3 9) (var3 12))) refl

  gradient_is : (f : Frame A) (dt du dv : A) → gradient R f dt du dv ≡ gradient (fixed R (one ⊘ f.det)) f dt du dv
  unfolding gradient gradient_on
  gradient_is f dt du dv = same3 (L.div_is _ _) (L.div_is _ _) (L.div_is _ _)

module _ {A : Type 0} (R : Arith A) (L : Laws R) where
  open R use {add as ◌⊕◌, mul as ◌⊗◌, div as ◌⊘◌, one}

  infixl 6 ◌⊕◌
  infixl 7 ◌⊗◌
  infixl 7 ◌⊘◌
  -- Cramer's rule: g tells t, u and v apart
  pub told_apart : (t u v dt du dv : A) (d e1 e2 : Vec3 A) → Invertible R (framed R d e1 e2).det
      → dot3 R (gradient R (framed R d e1 e2) dt du dv) (within R t u v d e1 e2) ≡ dt ⊗ t ⊕ du ⊗ u ⊕ dv ⊗ v
  unfolding Equal eval within framed gradient gradient_on minus3 scaled3 dot3 cross3
  told_apart t u v dt du dv d e1 e2 h =
      let E = exprs (var 15) in
      let f = framed E (var3 6) (var3 9) (var3 12) in
      let w = var 3 :* var 0 :+ var 4 :* var 1 :+ var 5 :* var 2 in
      ap (λ g. dot3 R g (within R t u v d e1 e2)) (gradient_is R L (framed R d e1 e2) dt du dv)
      ∙ by_premise R L (from R (t ∷ u ∷ v ∷ dt ∷ du ∷ dv ∷ d ∷₃ e1 ∷₃ e2 ∷₃ (one ⊘ (framed R d e1 e2).det) ∷ []))
      (dot3 E (gradient E f (var 3) (var 4) (var 5)) (within E (var 0) (var 1) (var 2) (var3 6) (var3 9) (var3 12))) w w (f.det :* var 15) :1 h refl
