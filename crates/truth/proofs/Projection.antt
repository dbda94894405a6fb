-- The projection of a point: `jacobian_transform` with `mult_mat3_col_major` is the transpose of its derivative, and what an edge gives the
-- three corners of a face is the derivative of the projected point of fixed weights.
use Rattle.std.specs.Prelude.{ℕ, ◌≡◌, [], ◌∷◌}
use Rattle.std.proofs.Math.Path.{refl, sym, ap}
use Rattle.std.proofs.Common.{◌∙◌}
use Rattle.geometry.specs.Arith.{Arith}
use Rattle.geometry.specs.Vector.{Vec3, Weights, weights, Triangle, Projected, projected}
use Rattle.geometry.specs.Formula.{blend, point_from, row, over}
use Rattle.rays.specs.Space.{dot3}
use Rattle.jacobians.specs.Formula.{mat3, project_untested, jacobian_entry, jacobian_column, jacobian_at, jacobian, mult_mat3}
use Rattle.truth.specs.Laws.{Laws}
use Rattle.truth.specs.Solve.{same3, var, :0, exprs, fixed, from, eval, Equal, by_ring}
use Rattle.truth.specs.Dual.{Dual, dual, duals}
use Rattle.truth.proofs.Dual.{both, quotient}
use Rattle.truth.specs.Moving.{moving3, moving, still3, still_weights, inner}
use Rattle.truth.proofs.Sharing.{shared_out}
use Rattle.truth.specs.Projection.{projected_by, pulled, still_matrix}
use Rattle.truth.proofs.Pulled.{pull_fixed}

module _ {A : Type 0} (R : Arith A) (L : Laws R) where
  open R use {div as ◌⊘◌, one}

  infixl 7 ◌⊘◌
  project_untested_is : (m : ℕ → A) (x : Vec3 A) → project_untested R m x ≡ project_untested (fixed R (one ⊘ row R m 3 x)) m x
  unfolding project_untested over row
  project_untested_is m x = ap (λ p. projected p (row R m 3 x)) (same3 (L.div_is _ _) (L.div_is _ _) (L.div_is _ _))

  jacobian_is : (m : ℕ → A) (t : Projected A) → jacobian_at R m t ≡ jacobian_at (fixed R (one ⊘ t.w)) m t
  unfolding jacobian_at jacobian_column jacobian_entry
  jacobian_is m t = λ i. mat3 (c0 i) (c1 i) (c2 i)
    where
      c0 : (jacobian_at R m t).c0 ≡ (jacobian_at (fixed R (one ⊘ t.w)) m t).c0
      c0 = same3 (L.div_is _ _) (L.div_is _ _) (L.div_is _ _)

      c1 : (jacobian_at R m t).c1 ≡ (jacobian_at (fixed R (one ⊘ t.w)) m t).c1
      c1 = same3 (L.div_is _ _) (L.div_is _ _) (L.div_is _ _)

      c2 : (jacobian_at R m t).c2 ≡ (jacobian_at (fixed R (one ⊘ t.w)) m t).c2
      c2 = same3 (L.div_is _ _) (L.div_is _ _) (L.div_is _ _)

  projected_is : (m : ℕ → A) (x dx : Vec3 A)
      → project_untested (duals R) (still_matrix R m) (moving3 x dx) ≡ project_untested (duals (fixed R (one ⊘ row R m 3 x))) (still_matrix R m) (moving3 x dx)
  unfolding project_untested over row
  projected_is m x dx = ap (λ p. projected p (row (duals R) (still_matrix R m) 3 (moving3 x dx))) (same3 (quotient R L _ _) (quotient R L _ _) (quotient R L _ _))

  -- ⟨g, the projection⟩ moves as the jacobian says. It says something where y3 can be divided by, and holds of any division.
  pub pull_true : (m : ℕ → A) (x dx g : Vec3 A)
      → (projected_by (duals R) (still_matrix R m) (still3 R g) (moving3 x dx)).eps ≡ dot3 R (mult_mat3 R g (jacobian R m x)) dx
  unfolding projected_by dot3 jacobian mult_mat3 project_untested over row
  pull_true m x dx g =
      ap (λ (t : Projected (Dual A)). (dot3 (duals R) (still3 R g) t.p).eps) (projected_is m x dx)
      ∙ pull_fixed R L m x dx g
      ∙ sym (ap (λ j. dot3 R (mult_mat3 R g j) dx) (jacobian_is m (project_untested R m x) ∙ ap (jacobian_at (fixed R (one ⊘ row R m 3 x)) m) (project_untested_is m x)))

  blended : (b : Weights A) (p0 p1 p2 q0 q1 q2 : A) → blend (duals R) (still_weights R b) (dual p0 q0) (dual p1 q1) (dual p2 q2) ≡ dual (blend R b p0 p1 p2) (blend R b q0 q1 q2)
  unfolding Equal eval blend
  blended b p0 p1 p2 q0 q1 q2 =
      let E = exprs :0 in
      let w = weights (var 0) (var 1) (var 2) in
      both R L refl
      (by_ring R L (from R (b.b0 ∷ b.b1 ∷ b.b2 ∷ p0 ∷ p1 ∷ p2 ∷ q0 ∷ q1 ∷ q2 ∷ []))
      (blend (duals E) (still_weights E w) (dual (var 3) (var 6)) (dual (var 4) (var 7)) (dual (var 5) (var 8))).eps (blend E w (var 6) (var 7) (var 8)) refl)

  -- the point of fixed weights, while the corners move
  point_moves : (b : Weights A) (p q : Triangle (Vec3 A))
      → point_from (duals R) (still_weights R b) (moving p q).p0 (moving p q).p1 (moving p q).p2 ≡ moving3 (point_from R b p.p0 p.p1 p.p2) (point_from R b q.p0 q.p1 q.p2)
  unfolding point_from
  point_moves b p q =
      same3 (blended b p.p0.x p.p1.x p.p2.x q.p0.x q.p1.x q.p2.x)
      (blended b p.p0.y p.p1.y p.p2.y q.p0.y q.p1.y q.p2.y)
      (blended b p.p0.z p.p1.z p.p2.z q.p0.z q.p1.z q.p2.z)

  -- What `bwd` gives a face's corners for a gradient g in the image at the point of the weights b: the derivative of ⟨g, that point projected⟩.
  pub edge_true : (m : ℕ → A) (b : Weights A) (g : Vec3 A) (p q : Triangle (Vec3 A))
      → (projected_by (duals R) (still_matrix R m) (still3 R g) (point_from (duals R) (still_weights R b) (moving p q).p0 (moving p q).p1 (moving p q).p2)).eps
      ≡ inner R (pulled R m b g p) q
  unfolding pulled
  edge_true m b g p q =
      ap (λ x. (projected_by (duals R) (still_matrix R m) (still3 R g) x).eps) (point_moves b p q)
      ∙ pull_true m (point_from R b p.p0 p.p1 p.p2) (point_from R b q.p0 q.p1 q.p2) g
      ∙ sym (shared_out R L b (mult_mat3 R g (jacobian R m (point_from R b p.p0 p.p1 p.p2))) q)
