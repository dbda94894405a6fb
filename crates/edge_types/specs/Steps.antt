-- What the steps leave in an axis's buffers.
use Rattle.std.specs.Prelude.{ℕ, ◌*◌, set, Float}
use Rattle.lists.specs.Lists.{filled}
use Rattle.pixels.specs.Edge.{Axis, edge_at, per_row}
use Rattle.pairs.specs.Pairs.{EdgeView}
use Rattle.pairs.specs.Gradient.{PixelValues}
use Rattle.edge_types.specs.Types.{type_of, dldr_of}
use Rattle.edge_types.specs.Axis.{AxisBuffers, axis_buffers}

-- a type and a `dldr`, put at place i
abbrev pub put_at : AxisBuffers → ℕ → ℕ → Float → AxisBuffers
put_at b i t d = axis_buffers (set b.types i t) (set b.dldrs i d)

-- the pairs of an axis, n from number i on
abbrev pub pairs_filled : Axis → EdgeView → PixelValues → ℕ → ℕ → AxisBuffers → AxisBuffers
pairs_filled a s v i n b = axis_buffers (filled (λ k. type_of s (edge_at a s.width k)) i n b.types) (filled (λ k. dldr_of s v (edge_at a s.width k)) i n b.dldrs)

-- those whose first pixels lie in row y
abbrev pub row_filled : Axis → ℕ → EdgeView → PixelValues → AxisBuffers → AxisBuffers
row_filled a y s v = pairs_filled a s v (y * per_row a s.width) (per_row a s.width)
