-- Sums of one pixel.
use Rattle.std.specs.Prelude.{ℕ, List, Float}
use Rattle.geometry.specs.Arith.{floats}
use Rattle.geometry.specs.Vector.{Weights}
use Rattle.meshes.specs.Mesh.{Face}
use Rattle.meshes.specs.Sums.{Addition}
use Rattle.pixel_bwd.specs.Additions.{to_corners}

-- what channel j adds to the values
abbrev pub turn : ℕ → Face → (ℕ → Float) → Weights Float → ℕ → List Addition
turn c f d b j = to_corners c f j (floats.mul (d j) b.b0) (floats.mul (d j) b.b1) (floats.mul (d j) b.b2)
