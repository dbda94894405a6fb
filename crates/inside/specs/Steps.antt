-- What the steps promise of all vertices.
use Rattle.std.specs.Prelude.{◌/◌, Bool, List, length, Float}
use Rattle.lists.specs.Lists.{span, every}
use Rattle.geometry.specs.Leaf.{project}
use Rattle.meshes.specs.Mesh.{vertex_at}
use Rattle.inside.specs.Inside.{present}

-- every vertex has a projection
unfoldable pub all_project : List Float → List Float → Bool
all_project m xyz = every (λ v. present (project m (vertex_at xyz v))) (span 0 (length xyz / 3))
