-- The gradients at one pixel that shows a face: of its weights, and of the face's corners.
use Rattle.std.specs.Prelude.{ℕ, ◌+◌, List, Float, get_or}
use Rattle.std.specs.Float.{nan}
use Rattle.geometry.specs.Arith.{floats}
use Rattle.geometry.specs.Vector.{Weights, weights}
use Rattle.rays.specs.Space.{Ray}
use Rattle.rays_bwd.specs.Backward.{Gradients, plane_backward}
use Rattle.meshes.specs.Mesh.{Face, corners_at}
use Rattle.vertex_values.specs.Pass.{Vertices, value_of}
use Rattle.pixel_gradients.specs.Gather.{gathered}

-- the incoming gradient of channel j at the pixel whose channels begin at `at`
abbrev pub incoming_at : List Float → ℕ → ℕ → Float
incoming_at dldw at j = get_or dldw (at + j) nan

-- the gradients of the weights: the sums of corner value times incoming gradient, channels in order
unfoldable pub incoming : Vertices → Face → (ℕ → Float) → Weights Float
incoming s f d =
    weights (gathered floats (value_of s f.v0) d s.channels) (gathered floats (value_of s f.v1) d s.channels)
    (gathered floats (value_of s f.v2) d s.channels)

-- of t it is 0, and takes part as 0 does; of u and v what corner 1 and corner 2 have beyond corner 0
unfoldable pub backward : List Float → Face → Ray Float → Weights Float → Gradients Float
backward xyz f r b = plane_backward floats (corners_at xyz f) r floats.zero (floats.sub b.b1 b.b0) (floats.sub b.b2 b.b0)

unfoldable pub gradients_at : Vertices → Face → Ray Float → (ℕ → Float) → Gradients Float
gradients_at s f r d = backward s.xyz f r (incoming s f d)
