-- What `interpolate_bwd` adds for a pixel is the derivative of the pixel's part of the loss.
use Prim.Native.Nat.{ℕ, zero, suc}
use Rattle.std.specs.Prelude.{◌≡◌, [], ◌∷◌}
use Rattle.std.proofs.Math.Path.{refl, ap}
use Rattle.std.proofs.Common.{◌∙◌}
use Rattle.geometry.specs.Arith.{Arith}
use Rattle.geometry.specs.Vector.{Vec3, Weights, weights, Triangle}
use Rattle.geometry.specs.Formula.{sum_of, blend}
use Rattle.rays.specs.Space.{Ray, minus3, dot3, cross3, along3}
use Rattle.rays.specs.Plane.{normal, distance, hit, weight, weights_at, weights_on, plane_weights}
use Rattle.rays_bwd.specs.Backward.{frame_of, framed, meets_u, meets_v, weighted, shared, backward_on, plane_backward}
use Rattle.pixel_gradients.specs.Gather.{gathered}
use Rattle.truth.specs.Laws.{Laws, Invertible}
use Rattle.truth.specs.Solve.{Expr, var, :0, ◌:+◌, ◌:-◌, ◌:*◌, exprs, from, eval, Equal, by_ring}
use Rattle.truth.specs.Dual.{Dual, dual, duals, still}
use Rattle.truth.proofs.Dual.{dual_laws, dual_invertible}
use Rattle.truth.specs.Moving.{moving, moving_values, still_ray, inner}
use Rattle.truth.specs.Meeting.{D, n_dot_n, t_of, u_of, v_of}
use Rattle.truth.proofs.Meeting.{weights_agree}
use Rattle.truth.proofs.Shares.{shares_true}
use Rattle.truth.specs.Pixel.{value_at, loss, incoming, of_u, of_v, backward, gradients_at, to_value, inner_values}

abbrev real : {A : Type 0} → Weights (Dual A) → Weights A
real b = weights b.b0.re b.b1.re b.b2.re

abbrev atε : {A : Type 0} → Weights (Dual A) → Weights A
atε b = weights b.b0.eps b.b1.eps b.b2.eps

-- ---- one more channel: the weights are variables 0 to 5, the corners' values 6 to 11, the incoming gradient 12, and the sums so far 13 to 18

abbrev E : Arith Expr
E = exprs :0

abbrev F : Arith (Dual Expr)
F = duals E

abbrev w : Weights (Dual Expr)
w = weights (dual (var 0) (var 1)) (dual (var 2) (var 3)) (dual (var 4) (var 5))

abbrev before : Expr
before = blend E (atε w) (var 13) (var 14) (var 15) :+ (var 16 :+ var 17 :+ var 18)

abbrev more : Expr
more = (F.mul (blend F w (dual (var 6) (var 9)) (dual (var 7) (var 10)) (dual (var 8) (var 11))) (still E (var 12))).eps

abbrev to : Expr → Expr
to b = to_value E (λ j. var 12) b 0

abbrev after : Expr
after =
    blend E (atε w) (var 13 :+ var 6 :* var 12) (var 14 :+ var 7 :* var 12) (var 15 :+ var 8 :* var 12)
    :+ (var 16 :+ to (var 0) :* var 9 :+ (var 17 :+ to (var 2) :* var 10) :+ (var 18 :+ to (var 4) :* var 11))

module _ {A : Type 0} (R : Arith A) (L : Laws R) (x y : Triangle (ℕ → A)) (d : ℕ → A) where
  open R use {add as ◌⊕◌}

  infixl 6 ◌⊕◌
  -- weights and values both move
  summed : (b : Weights (Dual A)) (c : ℕ)
      → (gathered (duals R) (λ j. blend (duals R) b ((moving_values x y).p0 j) ((moving_values x y).p1 j) ((moving_values x y).p2 j)) (λ j. still R (d j)) c).eps
      ≡ blend R (atε b) (incoming R x d c).b0 (incoming R x d c).b1 (incoming R x d c).b2 ⊕ inner_values R d (real b) y c
  unfolding Equal eval gathered sum_of incoming inner_values to_value blend
  summed b zero =
      by_ring R L (from R (b.b0.eps ∷ b.b1.eps ∷ b.b2.eps ∷ [])) :0
      (blend E (weights (var 0) (var 1) (var 2)) :0 :0 :0 :+ (:0 :+ :0 :+ :0)) refl
  summed b (suc c) =
      ap (λ s. s ⊕ ((duals R).mul (blend (duals R) b (dual (x.p0 c) (y.p0 c)) (dual (x.p1 c) (y.p1 c)) (dual (x.p2 c) (y.p2 c))) (still R (d c))).eps) (summed b c)
      ∙ by_ring R L
      (from R (b.b0.re ∷ b.b0.eps ∷ b.b1.re ∷ b.b1.eps ∷ b.b2.re ∷ b.b2.eps
      ∷ x.p0 c ∷ x.p1 c ∷ x.p2 c ∷ y.p0 c ∷ y.p1 c ∷ y.p2 c ∷ d c
      ∷ gathered R x.p0 d c ∷ gathered R x.p1 d c ∷ gathered R x.p2 d c
      ∷ gathered R (to_value R d b.b0.re) y.p0 c ∷ gathered R (to_value R d b.b1.re) y.p1 c ∷ gathered R (to_value R d b.b2.re) y.p2 c ∷ []))
      (before :+ more) after refl

module _ {A : Type 0} (R : Arith A) (L : Laws R) (p m : Triangle (Vec3 A)) (r : Ray A) (h : Invertible R (D R p r)) (k : Invertible R (n_dot_n R p)) where
  open R use {add as ◌⊕◌}

  infixl 6 ◌⊕◌
  abbrev P : Triangle (Vec3 (Dual A))
  P = moving p m

  abbrev line : Ray (Dual A)
  line = still_ray R r

  -- the moving pixel's weights
  abbrev B : Weights (Dual A)
  B = weighted (duals R) (u_of (duals R) P line) (v_of (duals R) P line)

  forward : plane_weights (duals R) P line ≡ B
  unfolding plane_backward backward_on shared frame_of framed normal minus3 dot3 cross3
  forward =
      weights_agree (duals R) (dual_laws R L) P line (duals R).zero (duals R).zero (duals R).zero
      (dual_invertible R L (D (duals R) P line) h) (dual_invertible R L (n_dot_n (duals R) P) k)

  -- the weights' movement, by that of u and v
  by_uv : (g : Weights A) → blend R (atε B) g.b0 g.b1 g.b2 ≡ inner R (backward R p r g).to m
  unfolding Equal eval blend weighted backward
  by_uv g =
      by_ring R L (from R ((t_of (duals R) P line).eps ∷ (u_of (duals R) P line).eps ∷ (v_of (duals R) P line).eps ∷ g.b0 ∷ g.b1 ∷ g.b2 ∷ []))
      (blend E (weights (:0 :- var 1 :- var 2) (var 1) (var 2)) (var 3) (var 4) (var 5))
      (:0 :* var 0 :+ of_u E (weights (var 3) (var 4) (var 5)) :* var 1 :+ of_v E (weights (var 3) (var 4) (var 5)) :* var 2) refl
      ∙ shares_true R L p m r h R.zero (of_u R g) (of_v R g)

  -- Where D and n·n can be divided by: for one pixel, any number of channels c, vertices and values both moving, the derivative of the loss is
  -- what the gradients that the pass adds say of the movement.
  pub loss_true : (x y : Triangle (ℕ → A)) (d : ℕ → A) (c : ℕ)
      → (loss (duals R) P line (moving_values x y) (λ j. still R (d j)) c).eps
      ≡ inner R (gradients_at R p r x d c).to m ⊕ inner_values R d (gradients_at R p r x d c).bc y c
  unfolding loss value_at gradients_at backward plane_backward backward_on shared meets_u meets_v weighted frame_of framed minus3 dot3 cross3
  loss_true x y d c =
      ap (λ (b : Weights (Dual A)). (gathered (duals R) (λ j. blend (duals R) b ((moving_values x y).p0 j) ((moving_values x y).p1 j) ((moving_values x y).p2 j)) (λ j. still R (d j)) c).eps) forward
      ∙ summed R L x y d B c
      ∙ ap (λ s. s ⊕ inner_values R d (real B) y c) (by_uv (incoming R x d c))

  -- beside ε stands the loss itself
  pub loss_same : (x y : Triangle (ℕ → A)) (d : ℕ → A) (c : ℕ) → (loss (duals R) P line (moving_values x y) (λ j. still R (d j)) c).re ≡ loss R p r x d c
  unfolding loss gathered sum_of value_at blend plane_weights weights_on weights_at weight hit distance along3 normal minus3 dot3 cross3
  loss_same x y d zero = refl
  loss_same x y d (suc c) = ap (λ s. s ⊕ R.mul (value_at R p r x c) (d c)) (loss_same x y d c)
