-- What the steps promise.
use Rattle.std.specs.Prelude.{ℕ, cond, List, [], ◌++◌, Float}
use Rattle.geometry.specs.Vector.{Vec2, Vec3, Projected, Triangle}
use Rattle.meshes.specs.Mesh.{Face}
use Rattle.meshes.specs.Sums.{Addition}
use Rattle.tris.specs.Tri.{unormal}
use Rattle.crossings.specs.Crossing.{skipped, coefficient0, coefficient1, g_pix}
use Rattle.scattering.specs.Scattering.{given}

-- what an intersection's two shares add, of the unit normals n0 and n1
unfoldable pub given_both : List Float → ℕ → Float → Face → Face → Triangle (Vec3 Float) → Triangle (Vec3 Float) → Triangle (Projected Float) → Triangle (Projected Float)
    → Vec2 Float → Vec2 Float → Vec3 Float → Vec3 Float → List Addition
given_both m axis d f0 f1 x0 x1 t0 t1 q0 q1 n0 n1 =
    cond (skipped axis n0 n1) []
    (given m f0 x0 t0 q0 (g_pix (coefficient0 axis n0 n1) n0 d) ++ given m f1 x1 t1 q1 (g_pix (coefficient1 axis n0 n1) n1 d))

unfoldable pub given_crossing : List Float → ℕ → Float → Face → Face → Triangle (Vec3 Float) → Triangle (Vec3 Float) → Triangle (Projected Float) → Triangle (Projected Float)
    → Vec2 Float → Vec2 Float → List Addition
given_crossing m axis d f0 f1 x0 x1 t0 t1 q0 q1 = given_both m axis d f0 f1 x0 x1 t0 t1 q0 q1 (unormal t0) (unormal t1)
