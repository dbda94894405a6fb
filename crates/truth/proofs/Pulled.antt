-- The projection with 1 / y3 times for every division.
use Rattle.std.specs.Prelude.{ℕ, ◌≡◌, [], ◌∷◌}
use Rattle.std.proofs.Math.Path.{refl}
use Rattle.geometry.specs.Arith.{Arith}
use Rattle.geometry.specs.Vector.{Vec3}
use Rattle.geometry.specs.Formula.{row, over}
use Rattle.rays.specs.Space.{dot3}
use Rattle.jacobians.specs.Formula.{project_untested, jacobian_entry, jacobian_column, jacobian_at, jacobian, mult_mat3}
use Rattle.truth.specs.Laws.{Laws}
use Rattle.truth.specs.Solve.{var, ◌∷₃◌, var3, exprs, fixed, from, eval, Equal, by_ring}
use Rattle.truth.specs.Dual.{duals}
use Rattle.truth.specs.Moving.{moving3, still3}
use Rattle.truth.specs.Projection.{projected_by, still_matrix}

module _ {A : Type 0} (R : Arith A) (L : Laws R) where
  open R use {div as ◌⊘◌, one}

  infixl 7 ◌⊘◌
  -- the matrix is variables 0 to 15, x 16 to 18, its movement 19 to 21, g 22 to 24, and 25 is 1 / y3
  pub pull_fixed : (m : ℕ → A) (x dx g : Vec3 A)
      → (let S = fixed R (one ⊘ row R m 3 x) in
      (projected_by (duals S) (still_matrix S m) (still3 S g) (moving3 x dx)).eps ≡ dot3 S (mult_mat3 S g (jacobian S m x)) dx)
  unfolding Equal eval projected_by project_untested over row dot3 mult_mat3 jacobian jacobian_at jacobian_column jacobian_entry
  pull_fixed m x dx g =
      let E = exprs (var 25) in
      by_ring R L
      (from R (m 0 ∷ m 1 ∷ m 2 ∷ m 3 ∷ m 4 ∷ m 5 ∷ m 6 ∷ m 7 ∷ m 8 ∷ m 9 ∷ m 10 ∷ m 11 ∷ m 12 ∷ m 13 ∷ m 14 ∷ m 15 ∷ x ∷₃ dx ∷₃ g ∷₃ (one ⊘ row R m 3 x) ∷ []))
      (projected_by (duals E) (still_matrix E var) (still3 E (var3 22)) (moving3 (var3 16) (var3 19))).eps
      (dot3 E (mult_mat3 E (var3 22) (jacobian E var (var3 16))) (var3 19)) refl
