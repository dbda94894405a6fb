-- The gradients of the weights after n channels.
use Rattle.std.proofs.Common.{ℕ, Float}
use Rattle.geometry.specs.Arith.{floats}
use Rattle.geometry.specs.Vector.{Weights, weights}
use Rattle.meshes.specs.Mesh.{Face}
use Rattle.vertex_values.specs.Pass.{Vertices, value_of}
use Rattle.pixel_gradients.specs.Gather.{gathered}

abbrev pub gathered_to : Vertices → Face → (ℕ → Float) → ℕ → Weights Float
gathered_to s f d n = weights (gathered floats (value_of s f.v0) d n) (gathered floats (value_of s f.v1) d n) (gathered floats (value_of s f.v2) d n)
