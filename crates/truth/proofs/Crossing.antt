-- The smoothing of outlines: an outline edge and the way between two centres meet in the crossing, and what the backward pass adds to the edge's vertices is
-- the derivative of the crossing's place on that way, and so of what is mixed there.
use Rattle.std.specs.Prelude.{ℕ, ◌≡◌, Bool, [], ◌∷◌}
use Rattle.std.proofs.Math.Path.{refl, sym, ap}
use Rattle.std.proofs.Common.{◌∙◌, ap₂}
use Rattle.geometry.specs.Arith.{Arith}
use Rattle.geometry.specs.Vector.{Vec2, vec2, Vec3, vec3}
use Rattle.geometry.specs.Formula.{row, over}
use Rattle.rays.specs.Space.{dot3}
use Rattle.jacobians.specs.Formula.{project_untested, Mat3, mat3, jacobian, mult_mat3}
use Rattle.outlines.specs.Formula.{Ends, ends, Crossing, minus2, perp_dot, scaled2, crossing_from, crossing_of, crossing_gradient, end_shares, crossing_backward, mixed}
use Rattle.antialias_bwd.specs.Formula.{pulled_back}
use Rattle.truth.specs.Laws.{Laws, Invertible}
use Rattle.truth.specs.Solve.{Expr, var, :0, ◌:-◌, ◌:*◌, :-◌, ◌∷₂◌, ◌∷₃◌, var2, var3, exprs, from, eval, Equal, by_ring}
use Rattle.truth.specs.Dual.{Dual, dual, duals, still}
use Rattle.truth.specs.Moving.{moving3, still3}
use Rattle.truth.specs.Projection.{projected_by, still_matrix}
use Rattle.truth.specs.Crossing.{along2, dot2, inner_ends, part, seen, edge_seen, outline_inner, seen_moves, crossing_moves, outline_moves}
use Rattle.truth.proofs.Dual.{quotient, dual_invertible}
use Rattle.truth.proofs.Projection.{pull_true}
use Rattle.truth.proofs.Crossed.{over_d, meets_fixed, true_fixed}
use Rattle.truth.proofs.Mixed.{mixed_true}

module _ {A : Type 0} (R : Arith A) (L : Laws R) (c0 c1 : Vec2 A) (e : Ends A) where
  open R use {mul as ◌⊗◌, div as ◌⊘◌, one}

  infixl 7 ◌⊗◌
  infixl 7 ◌⊘◌
  abbrev k : Crossing A
  k = crossing_of R c0 c1 e

  abbrev S : Arith A
  S = over_d R c0 c1 e

  rc_is : k.rc ≡ (crossing_of S c0 c1 e).rc
  unfolding crossing_of crossing_from minus2 perp_dot
  rc_is = L.div_is _ _

  re_is : k.re ≡ (crossing_of S c0 c1 e).re
  unfolding crossing_of crossing_from minus2 perp_dot
  re_is = L.div_is _ _

  -- beside ε stands rc itself
  pub crossing_same : (m : Ends A) → (crossing_moves R c0 c1 e m).rc.re ≡ k.rc
  unfolding crossing_of crossing_from minus2 perp_dot
  crossing_same m = refl

  module _ (h : Invertible R k.d) where
    -- Where d can be divided by, the crossing lies on both ways: c0 + rc u = q1 + re v.
    pub crossing_meets : along2 R c0 k.rc (minus2 R c1 c0) ≡ along2 R e.q1 k.re (minus2 R e.q0 e.q1)
    crossing_meets =
        ap (λ r. along2 R c0 r (minus2 R c1 c0)) rc_is
        ∙ meets_fixed R L c0 c1 e h
        ∙ sym (ap (λ r. along2 R e.q1 r (minus2 R e.q0 e.q1)) re_is)

    moves_is : (m : Ends A) → (crossing_moves R c0 c1 e m).rc ≡ (crossing_moves S c0 c1 e m).rc
    unfolding crossing_of crossing_from minus2 perp_dot
    moves_is m = quotient R L _ _

    backward_is : (dldr : A) → crossing_backward R e k dldr ≡ crossing_backward S e (crossing_of S c0 c1 e) dldr
    unfolding crossing_backward crossing_gradient end_shares crossing_of crossing_from minus2 scaled2
    backward_is dldr = λ j. end_shares R (re_is j) (vec2 (L.div_is (dldr ⊗ (minus2 R e.q0 e.q1).y) k.d j) (L.div_is (dldr ⊗ R.neg (minus2 R e.q0 e.q1).x) k.d j))

    -- Where d can be divided by: what dldr says of the movement of rc, the gradients that `crossing_backward` gives the ends say of the ends' movement.
    pub crossing_true : (m : Ends A) (dldr : A) → dldr ⊗ (crossing_moves R c0 c1 e m).rc.eps ≡ inner_ends R (crossing_backward R e k dldr) m
    crossing_true m dldr =
        ap (λ (r : Dual A). dldr ⊗ r.eps) (moves_is m)
        ∙ true_fixed R L c0 c1 e h m dldr
        ∙ sym (ap (λ g. inner_ends R g m) (backward_is dldr))

    -- while the ends move, d can be divided by still
    pub crossing_stays : (m : Ends A) → Invertible (duals R) (crossing_moves R c0 c1 e m).d
    unfolding crossing_of crossing_from minus2 perp_dot
    crossing_stays m = dual_invertible R L (crossing_moves R c0 c1 e m).d h

-- ---- the vertices

abbrev G : Arith Expr
G = exprs :0

abbrev F : Arith (Dual Expr)
F = duals G

module _ {A : Type 0} (R : Arith A) (L : Laws R) where
  open R use {add as ◌⊕◌, sub as ◌⊖◌, mul as ◌⊗◌, zero}

  infixl 6 ◌⊕◌
  infixl 6 ◌⊖◌
  infixl 7 ◌⊗◌
  abbrev level : Vec2 A → Vec3 A
  level g = vec3 g.x g.y zero

  -- a gradient in the picture has no third coordinate
  mult_level : (j : Mat3 A) (g : Vec2 A) → mult_mat3 R (level g) j ≡ pulled_back R j g
  unfolding Equal eval mult_mat3 dot3 pulled_back
  mult_level j g =
      let M = mat3 (var3 2) (var3 5) (var3 8) in
      let r = from R (g ∷₂ j.c0 ∷₃ j.c1 ∷₃ j.c2 ∷₃ []) in
      let a = mult_mat3 G (vec3 (var 0) (var 1) :0) M in
      let b = pulled_back G M (var2 0) in
      λ i. vec3 (by_ring R L r a.x b.x refl i) (by_ring R L r a.y b.y refl i) (by_ring R L r a.z b.z refl i)

  level_moves : (m : ℕ → A) (p dp : Vec3 A) (g : Vec2 A)
      → (projected_by (duals R) (still_matrix R m) (still3 R (level g)) (moving3 p dp)).eps ≡ dot2 R g (seen_moves R m p dp)
  unfolding Equal eval projected_by dot3 dot2 seen
  level_moves m p dp g =
      let t = (project_untested (duals R) (still_matrix R m) (moving3 p dp)).p in
      let T = vec3 (dual (var 2) (var 5)) (dual (var 3) (var 6)) (dual (var 4) (var 7)) in
      by_ring R L (from R (g ∷₂ vec3 t.x.re t.y.re t.z.re ∷₃ vec3 t.x.eps t.y.eps t.z.eps ∷₃ []))
      (dot3 F (still3 G (vec3 (var 0) (var 1) :0)) T).eps (dot2 G (var2 0) (var2 5)) refl

  -- What a share g in the picture brings the vertex p: ⟨g, p in the picture⟩ moves so. It says something where y3 can be divided by, and holds of any division.
  pub pulled_true : (m : ℕ → A) (p dp : Vec3 A) (g : Vec2 A) → dot3 R (pulled_back R (jacobian R m p) g) dp ≡ dot2 R g (seen_moves R m p dp)
  pulled_true m p dp g =
      sym (ap (λ x. dot3 R x dp) (mult_level (jacobian R m p) g))
      ∙ sym (pull_true R L m p dp (level g))
      ∙ level_moves m p dp g

  into_dldr : (a b dldw r : A) → dldw ⊗ (r ⊗ (a ⊖ b)) ≡ dldw ⊗ (a ⊖ b) ⊗ r
  unfolding Equal eval
  into_dldr a b dldw r = by_ring R L (from R (a ∷ b ∷ dldw ∷ r ∷ [])) (var 2 :* (var 3 :* (var 0 :- var 1))) (var 2 :* (var 0 :- var 1) :* var 3) refl

  module _ (m : ℕ → A) (c0 c1 : Vec2 A) (p0 p1 : Vec3 A) (h : Invertible R (crossing_of R c0 c1 (edge_seen R m p0 p1)).d) where
    -- Where d can be divided by: what dldr says of the movement of rc, what the pass adds to the two vertices says of the vertices' movement. As with
    -- `pulled_true`, it says something where both y3 can be divided by.
    pub outline_true : (dp0 dp1 : Vec3 A) (dldr : A) → dldr ⊗ (outline_moves R m c0 c1 p0 p1 dp0 dp1).rc.eps ≡ outline_inner R m c0 c1 p0 p1 dldr dp0 dp1
    unfolding outline_inner inner_ends edge_seen seen project_untested over row
    outline_true dp0 dp1 dldr =
        let e = edge_seen R m p0 p1 in
        let g = crossing_backward R e (crossing_of R c0 c1 e) dldr in
        crossing_true R L c0 c1 e h (ends (seen_moves R m p0 dp0) (seen_moves R m p1 dp1)) dldr
        ∙ ap₂ ◌⊕◌ (sym (pulled_true m p0 dp0 g.q0)) (sym (pulled_true m p1 dp1 g.q1))

    pub outline_same : (dp0 dp1 : Vec3 A) → (outline_moves R m c0 c1 p0 p1 dp0 dp1).rc.re ≡ (crossing_of R c0 c1 (edge_seen R m p0 p1)).rc
    unfolding crossing_of crossing_from minus2 perp_dot edge_seen seen project_untested over row
    outline_same dp0 dp1 = refl

    -- So of the pixel that a crossing writes, dldw being its incoming gradient: with dldr = dldw (a − b), what the pass adds to the two vertices says of
    -- their movement what dldw says of the pixel's.
    pub smoothed_true : (dp0 dp1 : Vec3 A) (below : Bool) (half a b dldw : A)
        → dldw ⊗ (mixed (duals R) (part (duals R) below (still R half) (outline_moves R m c0 c1 p0 p1 dp0 dp1).rc) (still R a) (still R b)).eps
        ≡ outline_inner R m c0 c1 p0 p1 (dldw ⊗ (a ⊖ b)) dp0 dp1
    smoothed_true dp0 dp1 below half a b dldw =
        let rc = (outline_moves R m c0 c1 p0 p1 dp0 dp1).rc in
        ap (λ x. dldw ⊗ x) (mixed_true R L below half a b rc)
        ∙ into_dldr a b dldw rc.eps
        ∙ outline_true dp0 dp1 (dldw ⊗ (a ⊖ b))
