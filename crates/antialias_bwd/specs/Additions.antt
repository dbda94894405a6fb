-- What a crossing adds to `dldw_vtx2xyz`, in order.
use Rattle.std.specs.Prelude.{cond, List, ◌++◌, Float}
use Rattle.std.specs.Float.Ieee.{lt}
use Rattle.geometry.specs.Arith.{floats}
use Rattle.geometry.specs.Leaf.{entries}
use Rattle.jacobians.specs.Formula.{Mat3, jacobian}
use Rattle.meshes.specs.Mesh.{vertex_at}
use Rattle.meshes.specs.Sums.{Addition, at_vertex}
use Rattle.pixels.specs.Pixel.{half}
use Rattle.outlines.specs.Formula.{Ends, crossing_backward}
use Rattle.outline_views.specs.Outline.{OutlineEdge, Met}
use Rattle.antialias.specs.Smoothing.{pixel_value}
use Rattle.antialias_bwd.specs.Formula.{pulled_back}

-- the incoming gradient of rc: that of the pixel in which the edge lies, times the difference of both values
unfoldable pub crossing_dldr : List Float → List Float → Met → Float
crossing_dldr val dldw k =
    floats.mul (cond (lt k.crossing.rc half) (pixel_value dldw k.first) (pixel_value dldw k.second)) (floats.sub (pixel_value val k.first) (pixel_value val k.second))

-- the shares of both ends, each taken back to its vertex, vertex 0's before vertex 1's
unfoldable pub to_ends : OutlineEdge → Mat3 Float → Mat3 Float → Ends Float → List Addition
to_ends v j0 j1 g = at_vertex v.v0 (pulled_back floats j0 g.q0) ++ at_vertex v.v1 (pulled_back floats j1 g.q1)

-- of an edge with the matrices of its vertices
unfoldable pub met_additions : List Float → List Float → OutlineEdge → Mat3 Float → Mat3 Float → Ends Float → Met → List Addition
met_additions val dldw v j0 j1 e k = to_ends v j0 j1 (crossing_backward floats e k.crossing (crossing_dldr val dldw k))

-- "j the `jacobian_transform` there"
unfoldable pub crossing_additions : List Float → List Float → List Float → List Float → OutlineEdge → Ends Float → Met → List Addition
crossing_additions m xyz val dldw v =
    met_additions val dldw v (jacobian floats (entries m) (vertex_at xyz v.v0)) (jacobian floats (entries m) (vertex_at xyz v.v1))
