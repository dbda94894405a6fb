-- What a gradient in the image, at a point of a face, adds to `dldw_vtx2xyz`, in order.
use Rattle.std.specs.Prelude.{List, [], ◌++◌, Float}
use Rattle.std.proofs.Math.Option.{Option, none, some}
use Rattle.geometry.specs.Arith.{floats}
use Rattle.geometry.specs.Vector.{Vec2, Vec3, Weights, Projected, Triangle}
use Rattle.geometry.specs.Leaf.{entries}
use Rattle.jacobians.specs.Formula.{jacobian, mult_mat3}
use Rattle.meshes.specs.Mesh.{Face}
use Rattle.rays.specs.Space.{scaled3}
use Rattle.meshes.specs.Sums.{Addition, at_vertex}
use Rattle.tris.specs.Weights.{world_in}
use Rattle.tris.specs.Tri.{point_on}

-- corner by corner, each by its weight
unfoldable pub to_face : Face → Weights Float → Vec3 Float → List Addition
to_face f b g = at_vertex f.v0 (scaled3 floats b.b0 g) ++ (at_vertex f.v1 (scaled3 floats b.b1 g) ++ at_vertex f.v2 (scaled3 floats b.b2 g))

-- the gradient g in the image, taken back to the world at the point x
unfoldable pub to_point : List Float → Vec3 Float → Vec3 Float → Vec3 Float
to_point m g x = mult_mat3 floats g (jacobian floats (entries m) x)

-- none without weights, which question 9 refuses
unfoldable pub spread : List Float → Triangle (Vec3 Float) → Face → Vec3 Float → Option (Weights Float) → List Addition
spread m x f g none = []
spread m x f g (some b) = to_face f b (to_point m g (point_on x b))

-- of the face f, with its corners and projections: the gradient g in the image at the point q
unfoldable pub given : List Float → Face → Triangle (Vec3 Float) → Triangle (Projected Float) → Vec2 Float → Vec3 Float → List Addition
given m f x t q g = spread m x f g (world_in q (some t))
