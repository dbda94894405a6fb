-- The same without dual numbers, for a movement of any size: from the corners p to the corners q, the change of t, u and v is what the shares say, with the
-- weights at p and the gradient g at q.
use Rattle.std.specs.Prelude.{◌≡◌, [], ◌∷◌}
use Rattle.std.proofs.Math.Path.{refl, sym, ap}
use Rattle.std.proofs.Common.{◌∙◌, ap₂}
use Rattle.geometry.specs.Arith.{Arith}
use Rattle.geometry.specs.Vector.{Vec3, Triangle, triangle}
use Rattle.geometry.specs.Formula.{blend, point_from}
use Rattle.rays.specs.Space.{Ray, minus3, dot3, scaled3, along3}
use Rattle.rays_bwd.specs.Backward.{framed, frame_of, weighted, gradient, shares, shared, backward_on, plane_backward}
use Rattle.truth.specs.Laws.{Laws, Invertible}
use Rattle.truth.specs.Solve.{same3, var, :0, :1, ◌:+◌, ◌:-◌, ◌:*◌, exprs, from, eval, Equal, by_premise}
use Rattle.truth.specs.Moving.{inner}
use Rattle.truth.specs.Meeting.{D, t_of, u_of, v_of}
use Rattle.truth.proofs.Meeting.{meets}
use Rattle.truth.specs.Shares.{within}
use Rattle.truth.proofs.Sharing.{shared_out, told_apart}

module _ {A : Type 0} (R : Arith A) (L : Laws R) where
  open R use {add as ◌⊕◌, sub as ◌⊖◌, mul as ◌⊗◌}

  infixl 6 ◌⊕◌
  infixl 6 ◌⊖◌
  infixl 7 ◌⊗◌
  -- from p to q
  abbrev pub between : Triangle (Vec3 A) → Triangle (Vec3 A) → Triangle (Vec3 A)
  between p q = triangle (minus3 R q.p0 p.p0) (minus3 R q.p1 p.p1) (minus3 R q.p2 p.p2)

  -- one coordinate of the two points, before and after: variables 0 and 1 are o and d, 2 to 4 and 5 to 7 the corners, 8 to 10 and 11 to 13 t, u and v
  follows : (o d p0 p1 p2 q0 q1 q2 t u v t' u' v' : A)
      → o ⊕ t ⊗ d ≡ blend R (weighted R u v) p0 p1 p2
      → o ⊕ t' ⊗ d ≡ blend R (weighted R u' v') q0 q1 q2
      → blend R (weighted R u v) (q0 ⊖ p0) (q1 ⊖ p1) (q2 ⊖ p2) ≡ (t' ⊖ t) ⊗ d ⊖ (u' ⊖ u) ⊗ (q1 ⊖ q0) ⊖ (v' ⊖ v) ⊗ (q2 ⊖ q0)
  unfolding Equal eval blend weighted
  follows o d p0 p1 p2 q0 q1 q2 t u v t' u' v' h k =
      let E = exprs :0 in
      by_premise R L (from R (o ∷ d ∷ p0 ∷ p1 ∷ p2 ∷ q0 ∷ q1 ∷ q2 ∷ t ∷ u ∷ v ∷ t' ∷ u' ∷ v' ∷ []))
      (blend E (weighted E (var 9) (var 10)) (var 5 :- var 2) (var 6 :- var 3) (var 7 :- var 4))
      ((var 11 :- var 8) :* var 1 :- (var 12 :- var 9) :* (var 6 :- var 5) :- (var 13 :- var 10) :* (var 7 :- var 5)) :1
      (var 0 :+ var 8 :* var 1 :- (var 0 :+ var 11 :* var 1))
      (blend E (weighted E (var 9) (var 10)) (var 2) (var 3) (var 4) :- blend E (weighted E (var 12) (var 13)) (var 5) (var 6) (var 7)) (ap₂ ◌⊖◌ h k) refl

  module _ (p q : Triangle (Vec3 A)) (r : Ray A) (h : Invertible R (D R p r)) (k : Invertible R (D R q r)) where
    moves : point_from R (weighted R (u_of R p r) (v_of R p r)) (between p q).p0 (between p q).p1 (between p q).p2
        ≡ within R (t_of R q r ⊖ t_of R p r) (u_of R q r ⊖ u_of R p r) (v_of R q r ⊖ v_of R p r) r.dir (minus3 R q.p1 q.p0) (minus3 R q.p2 q.p0)
    unfolding within point_from along3 minus3 scaled3
    moves =
        same3 (follows _ _ _ _ _ _ _ _ _ _ _ _ _ _ (ap (λ (z : Vec3 A). z.x) (meets R L p r h)) (ap (λ (z : Vec3 A). z.x) (meets R L q r k)))
        (follows _ _ _ _ _ _ _ _ _ _ _ _ _ _ (ap (λ (z : Vec3 A). z.y) (meets R L p r h)) (ap (λ (z : Vec3 A). z.y) (meets R L q r k)))
        (follows _ _ _ _ _ _ _ _ _ _ _ _ _ _ (ap (λ (z : Vec3 A). z.z) (meets R L p r h)) (ap (λ (z : Vec3 A). z.z) (meets R L q r k)))

    pub secant : (dt du dv : A)
        → dt ⊗ (t_of R q r ⊖ t_of R p r) ⊕ du ⊗ (u_of R q r ⊖ u_of R p r) ⊕ dv ⊗ (v_of R q r ⊖ v_of R p r)
        ≡ inner R (shares R (plane_backward R p r dt du dv).bc (gradient R (frame_of R q r) dt du dv)) (between p q)
    unfolding plane_backward backward_on shared frame_of framed
    secant dt du dv =
        sym (shared_out R L (weighted R (u_of R p r) (v_of R p r)) (gradient R (frame_of R q r) dt du dv) (between p q)
        ∙ ap (dot3 R (gradient R (frame_of R q r) dt du dv)) moves
        ∙ told_apart R L _ _ _ dt du dv r.dir (minus3 R q.p1 q.p0) (minus3 R q.p2 q.p0) k)
