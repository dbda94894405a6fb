-- The backward formula of a plane is the derivative of where the ray meets it.
use Rattle.std.specs.Prelude.{◌≡◌, [], ◌∷◌}
use Rattle.std.proofs.Math.Path.{refl, sym, ap}
use Rattle.std.proofs.Common.{◌∙◌}
use Rattle.geometry.specs.Arith.{Arith}
use Rattle.geometry.specs.Vector.{Vec3, Triangle}
use Rattle.geometry.specs.Formula.{blend, point_from}
use Rattle.rays.specs.Space.{Ray, minus3, dot3, cross3, scaled3, along3}
use Rattle.rays_bwd.specs.Backward.{framed, frame_of, meets_t, meets_u, meets_v, weighted, gradient, shared, backward_on, plane_backward}
use Rattle.truth.specs.Laws.{Laws, Invertible}
use Rattle.truth.specs.Solve.{same3, var, :0, :1, ◌:-◌, ◌:*◌, :-◌, exprs, from, eval, Equal, by_premise}
use Rattle.truth.specs.Dual.{Dual, dual, duals, still}
use Rattle.truth.proofs.Dual.{dual_laws, dual_invertible}
use Rattle.truth.specs.Moving.{moving, still_ray, inner}
use Rattle.truth.specs.Meeting.{D, t_of, u_of, v_of}
use Rattle.truth.proofs.Meeting.{meets}
use Rattle.truth.specs.Shares.{within}
use Rattle.truth.proofs.Sharing.{shared_out, told_apart}

module _ {A : Type 0} (R : Arith A) (L : Laws R) where
  open R use {add as ◌⊕◌, mul as ◌⊗◌}

  infixl 6 ◌⊕◌
  infixl 7 ◌⊗◌
  -- one coordinate of the two points that are the same while they move
  follows : (o d p0 p1 p2 m0 m1 m2 : A) (t u v : Dual A)
      → ((duals R).add (still R o) ((duals R).mul t (still R d))).eps ≡ (blend (duals R) (weighted (duals R) u v) (dual p0 m0) (dual p1 m1) (dual p2 m2)).eps
      → blend R (weighted R u.re v.re) m0 m1 m2 ≡ R.sub (R.sub (t.eps ⊗ d) (u.eps ⊗ R.sub p1 p0)) (v.eps ⊗ R.sub p2 p0)
  unfolding Equal eval blend weighted
  follows o d p0 p1 p2 m0 m1 m2 t u v h =
      let E = exprs :0 in
      let F = duals E in
      by_premise R L (from R (o ∷ d ∷ p0 ∷ p1 ∷ p2 ∷ m0 ∷ m1 ∷ m2 ∷ t.re ∷ t.eps ∷ u.re ∷ u.eps ∷ v.re ∷ v.eps ∷ []))
      (blend E (weighted E (var 10) (var 12)) (var 5) (var 6) (var 7)) (var 9 :* var 1 :- var 11 :* (var 3 :- var 2) :- var 13 :* (var 4 :- var 2))
      (:- :1)
      (F.add (still E (var 0)) (F.mul (dual (var 8) (var 9)) (still E (var 1)))).eps
      (blend F (weighted F (dual (var 10) (var 11)) (dual (var 12) (var 13))) (dual (var 2) (var 5)) (dual (var 3) (var 6)) (dual (var 4) (var 7))).eps h refl

  module _ (p m : Triangle (Vec3 A)) (r : Ray A) (h : Invertible R (D R p r)) where
    abbrev P : Triangle (Vec3 (Dual A))
    P = moving p m

    abbrev line : Ray (Dual A)
    line = still_ray R r

    -- t, u and v at ε
    abbrev t' : A
    t' = (t_of (duals R) P line).eps

    abbrev u' : A
    u' = (u_of (duals R) P line).eps

    abbrev v' : A
    v' = (v_of (duals R) P line).eps

    dual-D : Invertible (duals R) (D (duals R) P line)
    unfolding frame_of framed minus3 dot3 cross3
    dual-D = dual_invertible R L (D (duals R) P line) h

    moves : point_from R (weighted R (u_of R p r) (v_of R p r)) m.p0 m.p1 m.p2 ≡ within R t' u' v' r.dir (minus3 R p.p1 p.p0) (minus3 R p.p2 p.p0)
    unfolding within point_from along3 minus3 scaled3 meets_t meets_u meets_v frame_of framed dot3 cross3
    moves =
        same3 (follows r.org.x r.dir.x p.p0.x p.p1.x p.p2.x m.p0.x m.p1.x m.p2.x t_d u_d v_d (ap (λ (q : Vec3 (Dual A)). q.x.eps) same))
        (follows r.org.y r.dir.y p.p0.y p.p1.y p.p2.y m.p0.y m.p1.y m.p2.y t_d u_d v_d (ap (λ (q : Vec3 (Dual A)). q.y.eps) same))
        (follows r.org.z r.dir.z p.p0.z p.p1.z p.p2.z m.p0.z m.p1.z m.p2.z t_d u_d v_d (ap (λ (q : Vec3 (Dual A)). q.z.eps) same))
      where
        t_d : Dual A
        t_d = t_of (duals R) P line

        u_d : Dual A
        u_d = u_of (duals R) P line

        v_d : Dual A
        v_d = v_of (duals R) P line

        same : along3 (duals R) line t_d ≡ point_from (duals R) (weighted (duals R) u_d v_d) P.p0 P.p1 P.p2
        same = meets (duals R) (dual_laws R L) P line dual-D

    -- Where D can be divided by: what the gradients dt, du and dv say of the movement of t, u and v, the shares say of the corners' movement.
    pub shares_true : (dt du dv : A) → dt ⊗ t' ⊕ du ⊗ u' ⊕ dv ⊗ v' ≡ inner R (plane_backward R p r dt du dv).to m
    unfolding plane_backward backward_on shared frame_of framed
    shares_true dt du dv =
        sym (shared_out R L (weighted R (u_of R p r) (v_of R p r)) (gradient R (frame_of R p r) dt du dv) m
        ∙ ap (dot3 R (gradient R (frame_of R p r) dt du dv)) moves
        ∙ told_apart R L t' u' v' dt du dv r.dir (minus3 R p.p1 p.p0) (minus3 R p.p2 p.p0) h)
