-- The type and `dldr` of every pair of an axis.
use Rattle.std.specs.Prelude.{ℕ, ◌≡◌, List, length, Float}
use Rattle.lists.specs.Lists.{tabulate}
use Rattle.pixels.specs.Edge.{Axis, edge_count, edge_at}
use Rattle.pairs.specs.Pairs.{EdgeView}
use Rattle.pairs.specs.Gradient.{PixelValues}
use Rattle.edge_types.specs.Types.{type_of, dldr_of}

-- the buffers of one axis
pub record AxisBuffers : Type 0 where
  pub types : List ℕ
  pub dldrs : List Float

abbrev pub axis_buffers : List ℕ → List Float → AxisBuffers
axis_buffers ts ds = record { types = ts; dldrs = ds }

-- type and `dldr` of every edge of an axis, in order, in an image h high
unfoldable pub edges_of : Axis → ℕ → EdgeView → PixelValues → AxisBuffers
edges_of a h s v =
    axis_buffers (tabulate (λ i. type_of s (edge_at a s.width i)) 0 (edge_count a s.width h))
    (tabulate (λ i. dldr_of s v (edge_at a s.width i)) 0 (edge_count a s.width h))

-- an axis's buffers have a place for each of its pairs
pub record SoundAxis (a : Axis) (w h : ℕ) (b : AxisBuffers) : Type 0 where
  pub types : length b.types ≡ edge_count a w h
  pub dldrs : length b.dldrs ≡ edge_count a w h
