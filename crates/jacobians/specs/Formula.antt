-- `jacobian_transform` and `mult_mat3_col_major`, over any arithmetic.
use Rattle.std.specs.Prelude.{ℕ, ◌+◌, ◌*◌}
use Rattle.geometry.specs.Arith.{Arith}
use Rattle.geometry.specs.Vector.{Vec3, vec3, Projected}
use Rattle.geometry.specs.Formula.{row, over}
use Rattle.rays.specs.Space.{dot3}

-- a matrix of nine numbers, column-major: entries 3k, 3k+1 and 3k+2 are column k
pub record Mat3 (A : Type 0) : Type 0 where
  pub c0 : Vec3 A
  pub c1 : Vec3 A
  pub c2 : Vec3 A

abbrev pub mat3 : {A : Type 0} → Vec3 A → Vec3 A → Vec3 A → Mat3 A
mat3 c0 c1 c2 = record { c0 = c0; c1 = c1; c2 = c2 }

module _ {A : Type 0} (R : Arith A) where
  open R use {sub as ◌⊖◌, mul as ◌⊗◌, div as ◌⊘◌}

  infixl 6 ◌⊖◌
  infixl 7 ◌⊗◌
  infixl 7 ◌⊘◌
  -- "the projected point", and y3: "no zero test"
  unfoldable pub project_untested : (ℕ → A) → Vec3 A → Projected A
  project_untested m x = over R (row R m 0 x) (row R m 1 x) (row R m 2 x) (row R m 3 x)

  -- "entry 3k+r = (m[4k+r] − p_r·m[4k+3]) / y3", of p_r and y3
  unfoldable pub jacobian_entry : (ℕ → A) → ℕ → ℕ → A → A → A
  jacobian_entry m k r p y3 = (m (4 * k + r) ⊖ p ⊗ m (4 * k + 3)) ⊘ y3

  unfoldable pub jacobian_column : (ℕ → A) → ℕ → Projected A → Vec3 A
  jacobian_column m k t = vec3 (jacobian_entry m k 0 t.p.x t.w) (jacobian_entry m k 1 t.p.y t.w) (jacobian_entry m k 2 t.p.z t.w)

  unfoldable pub jacobian_at : (ℕ → A) → Projected A → Mat3 A
  jacobian_at m t = mat3 (jacobian_column m 0 t) (jacobian_column m 1 t) (jacobian_column m 2 t)

  -- `jacobian_transform` at the point x
  unfoldable pub jacobian : (ℕ → A) → Vec3 A → Mat3 A
  jacobian m x = jacobian_at m (project_untested m x)

  -- `mult_mat3_col_major` of g and j: "entry k is j[3k]g0+j[3k+1]g1+j[3k+2]g2"
  unfoldable pub mult_mat3 : Vec3 A → Mat3 A → Vec3 A
  mult_mat3 g j = vec3 (dot3 R j.c0 g) (dot3 R j.c1 g) (dot3 R j.c2 g)
