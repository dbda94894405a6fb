-- What an axis's pairs add to `dldw_vtx2xyz`, in order.
use Rattle.std.specs.Prelude.{ℕ, ◌/◌, ◌%◌}
use mathlib.Core.List.{List, flat_map}
use Rattle.lists.specs.Lists.{span}
use Rattle.meshes.specs.Sums.{Addition}
use Rattle.pixels.specs.Edge.{Axis, Edge, edge_from, rows, edge_count}
use Rattle.pairs.specs.Pairs.{EdgeView}
use Rattle.pairs.specs.Gradient.{PixelValues}
use Rattle.share_rules.specs.Additions.{pair_additions}

-- pair number i, column by column from the top, as the Rust's loops run
unfoldable pub edge_down : Axis → ℕ → ℕ → Edge
edge_down a h i = edge_from a (i / rows a h) (i % rows a h)

-- of an axis, in an image h high
unfoldable pub axis_additions : Axis → ℕ → EdgeView → PixelValues → List Addition
axis_additions a h s v = flat_map (λ i. pair_additions a s v (edge_down a h i)) (span 0 (edge_count a s.width h))

-- of the pairs whose first pixels lie in column x
unfoldable pub column_additions : Axis → ℕ → EdgeView → PixelValues → ℕ → List Addition
column_additions a h s v x = flat_map (λ y. pair_additions a s v (edge_from a x y)) (span 0 (rows a h))
