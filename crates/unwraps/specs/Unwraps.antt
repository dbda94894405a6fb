-- 9. "In `bwd`, has `barycentric_world` an answer wherever the Rust unwraps it?"
use Rattle.std.specs.Prelude.{ℕ, Bool, true, ◌&&◌, List, [], ◌∷◌, Float}
use Rattle.lists.specs.Lists.{span, every}
use Rattle.pixels.specs.Edge.{Axis, hedge, vedge, Edge, edge_count, edge_at}
use Rattle.inside.specs.Inside.{present}
use Rattle.meshes.specs.Mesh.{project_face}
use Rattle.pairs.specs.Pairs.{EdgeView}
use Rattle.tris.specs.Weights.{world_in}
use Rattle.share_rules.specs.Shares.{Share, shares_at}

-- for a share
unfoldable pub weighable : List Float → List Float → Share → Bool
weighable m xyz h = present (world_in h.centre (project_face m xyz h.face))

-- for every share of a list
unfoldable pub weighable_all : List Float → List Float → List Share → Bool
weighable_all m xyz [] = true
weighable_all m xyz (h ∷ hs) = weighable m xyz h && weighable_all m xyz hs

-- of a pair: for each of its shares
unfoldable pub unwraps : Axis → EdgeView → Edge → Bool
unwraps a s e = weighable_all s.matrix s.vertices (shares_at a s e)

-- of every pair of an axis, in an image h high
unfoldable pub all_unwraps : Axis → ℕ → EdgeView → Bool
all_unwraps a h s = every (λ i. unwraps a s (edge_at a s.width i)) (span 0 (edge_count a s.width h))

-- of both axes
abbrev pub both_unwrap : ℕ → EdgeView → Bool
both_unwrap h s = all_unwraps hedge h s && all_unwraps vedge h s
