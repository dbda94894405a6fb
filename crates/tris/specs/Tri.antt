-- A face as the pass sees it: its corners, and where the matrix takes them.
use Rattle.std.specs.Prelude.{◌/◌, ◌≡◌, true, List, length, Float}
use Rattle.std.proofs.Math.Option.{some}
use Rattle.geometry.specs.Arith.{floats}
use Rattle.geometry.specs.Vector.{Vec3, Weights, Projected, Triangle, triangle}
use Rattle.geometry.specs.Formula.{point_from}
use Rattle.meshes.specs.Mesh.{Face, Among, corners_at, project_face}
use Rattle.normals.specs.Normal.{unit_normal}
use Rattle.inside.specs.Inside.{projects}

-- the point that the weights b make of the face's own corners
unfoldable pub point_on : Triangle (Vec3 Float) → Weights Float → Vec3 Float
point_on x b = point_from floats b x.p0 x.p1 x.p2

-- the unit normal of a projected face
unfoldable pub unormal : Triangle (Projected Float) → Vec3 Float
unormal t = unit_normal (triangle t.p0.p t.p1.p t.p2.p)

-- a face whose corners are there, and have their projections
pub record Projects (m xyz : List Float) (f : Face) : Type 0 where
  pub there : Among (length xyz / 3) f
  pub answered : projects m xyz (some f) ≡ true

-- a face's corners and their projections
pub record TriOf (m xyz : List Float) (f : Face) (x : Triangle (Vec3 Float)) (t : Triangle (Projected Float)) : Type 0 where
  pub corners : corners_at xyz f ≡ x
  pub projections : project_face m xyz f ≡ some t
