-- The projection of a point, and what an edge gives the three corners of a face.
use Rattle.std.specs.Prelude.{ℕ}
use Rattle.geometry.specs.Arith.{Arith}
use Rattle.geometry.specs.Vector.{Vec3, Weights, Triangle}
use Rattle.geometry.specs.Formula.{point_from}
use Rattle.rays.specs.Space.{dot3}
use Rattle.rays_bwd.specs.Backward.{shares}
use Rattle.jacobians.specs.Formula.{project_untested, jacobian, mult_mat3}
use Rattle.truth.specs.Dual.{Dual, still}

module _ {A : Type 0} (R : Arith A) where
  -- ⟨g, the projection of x⟩
  unfoldable pub projected_by : (ℕ → A) → Vec3 A → Vec3 A → A
  projected_by m g x = dot3 R g (project_untested R m x).p

  -- what an edge's gradient g in the image gives the corners of a face, at the point of the weights b
  unfoldable pub pulled : (ℕ → A) → Weights A → Vec3 A → Triangle (Vec3 A) → Triangle (Vec3 A)
  pulled m b g x = shares R b (mult_mat3 R g (jacobian R m (point_from R b x.p0 x.p1 x.p2)))

  abbrev pub still_matrix : (ℕ → A) → ℕ → Dual A
  still_matrix m k = still R (m k)
