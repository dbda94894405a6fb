-- What a pair adds to `dldw_vtx2xyz`, in order.
use mathlib.Core.List.{List, flat_map}
use Rattle.std.specs.Prelude.{Float}
use Rattle.meshes.specs.Mesh.{corners_at}
use Rattle.meshes.specs.Sums.{Addition}
use Rattle.pixels.specs.Edge.{Axis, Edge}
use Rattle.meshes.specs.Mesh.{project_face}
use Rattle.pairs.specs.Pairs.{EdgeView, first_of, second_of}
use Rattle.pairs.specs.Gradient.{PixelValues, dldr}
use Rattle.tris.specs.Weights.{world_in}
use Rattle.scattering.specs.Scattering.{spread}
use Rattle.share_rules.specs.Shares.{Share, shares_at}

-- of a share, with `dldr` d
unfoldable pub additions_of : List Float → List Float → Float → Share → List Addition
additions_of m xyz d h = spread m (corners_at xyz h.face) h.face (h.gradient d) (world_in h.centre (project_face m xyz h.face))

-- of a pair
unfoldable pub pair_additions : Axis → EdgeView → PixelValues → Edge → List Addition
pair_additions a s v e =
    flat_map (additions_of s.matrix s.vertices (dldr v (first_of s.width e) (second_of s.width e))) (shares_at a s e)
