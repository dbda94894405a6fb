-- What both values passes get beside the image, the faces and the map.
use Rattle.std.specs.Prelude.{ℕ, ◌+◌, ◌*◌, ◌/◌, List, Float, length, get_or}
use Rattle.std.specs.Float.{nan}

-- `vtx2xyz`, and `vtx2val` with its channels
pub record Vertices : Type 0 where
  pub xyz : List Float
  pub channels : ℕ
  pub val : List Float

abbrev pub vertices : List Float → ℕ → List Float → Vertices
vertices xyz c val = record { xyz = xyz; channels = c; val = val }

abbrev pub count : Vertices → ℕ
count s = length s.xyz / 3

-- channel j of vertex v
abbrev pub value_of : Vertices → ℕ → ℕ → Float
value_of s v j = get_or s.val (v * s.channels + j) nan
