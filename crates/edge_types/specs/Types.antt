-- The type and the gradient of an edge, over a view of the map.
use Rattle.std.specs.Prelude.{ℕ, Bool, ◌||◌, cond, Float}
use Rattle.pixels.specs.Pixel.{centre_of}
use Rattle.pixels.specs.Edge.{Edge}
use Rattle.inside.specs.Inside.{all_inside, contains}
use Rattle.pairs.specs.Pairs.{EdgeView, first_of, second_of, equal_entries}
use Rattle.pairs.specs.Gradient.{PixelValues, dldr}

-- each centre in the other pixel's face
unfoldable pub first_in_second : EdgeView → Edge → Bool
first_in_second s e = contains all_inside s.matrix s.vertices (s.view.at (second_of s.width e)) (centre_of e.first)

unfoldable pub second_in_first : EdgeView → Edge → Bool
second_in_first s e = contains all_inside s.matrix s.vertices (s.view.at (first_of s.width e)) (centre_of e.second)

-- "Equal entries: type 0"; else 1 where at least one centre is inside the other pixel's face, 0 where neither is
unfoldable pub type_of : EdgeView → Edge → ℕ
type_of s e = cond (equal_entries s e) 0 (cond (first_in_second s e || second_in_first s e) 1 0)

-- ".. `dldr` still worked out"
abbrev pub dldr_of : EdgeView → PixelValues → Edge → Float
dldr_of s v e = dldr v (first_of s.width e) (second_of s.width e)
