-- The values of one pixel.
use Rattle.std.specs.Prelude.{ℕ, Float}
use Rattle.std.proofs.Math.Option.{Option, none, some}
use Rattle.geometry.specs.Arith.{floats}
use Rattle.geometry.specs.Vector.{Weights}
use Rattle.geometry.specs.Formula.{blend}
use Rattle.meshes.specs.Mesh.{Face, corners_at}
use Rattle.rays.specs.Space.{Ray}
use Rattle.rays.specs.Plane.{plane_weights}
use Rattle.vertex_values.specs.Pass.{Vertices, value_of}

-- the Rust's sum at channel j: bc0*v0 + bc1*v1 + bc2*v2
unfoldable pub blend_of : Vertices → Face → Weights Float → ℕ → Float
blend_of s f b j = blend floats b (value_of s f.v0 j) (value_of s f.v1 j) (value_of s f.v2 j)

-- channel j of a pixel: "An empty pixel keeps its value bits."
unfoldable pub value_at : Vertices → Option Face → Option (Ray Float) → ℕ → Float → Float
value_at s (some f) (some r) j old = blend_of s f (plane_weights floats (corners_at s.xyz f) r) j
value_at s (some f) none j old = old
value_at s none r j old = old
