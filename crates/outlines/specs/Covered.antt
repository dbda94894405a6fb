-- The pixels that an edge covers: "when its box meets the pixel's closed square and cross2(q0, q1, corner) at the four corners is neither all above nor all below 0, none when a
-- coordinate is NaN".
use Rattle.std.specs.Prelude.{ℕ, ◌+◌, Bool, not, ◌&&◌, ◌||◌, Float}
use Rattle.std.specs.Float.Ieee.{lt, le, is_nan}
use Rattle.geometry.specs.Arith.{floats}
use Rattle.geometry.specs.Vector.{vec2}
use Rattle.geometry.specs.Formula.{cross2}
use Rattle.pixels.specs.Pixel.{Pixel, as_float}
use Rattle.outlines.specs.Formula.{Ends}

unfoldable pub has_nan : Ends Float → Bool
has_nan e = is_nan e.q0.x || (is_nan e.q0.y || (is_nan e.q1.x || is_nan e.q1.y))

-- along one axis, what lies from a to b, either first, meets the closed side from i to i + 1
unfoldable pub meets_side : Float → Float → ℕ → Bool
meets_side a b i = (le a (as_float (i + 1)) || le b (as_float (i + 1))) && (le (as_float i) a || le (as_float i) b)

-- the edge's box meets the pixel's closed square
unfoldable pub meets_square : Ends Float → Pixel → Bool
meets_square e p = meets_side e.q0.x e.q1.x p.column && meets_side e.q0.y e.q1.y p.row

-- cross2(q0, q1, corner), of the corner in column x and row y: a pixel's corners are its own column and row, and the next
unfoldable pub side_of : Ends Float → ℕ → ℕ → Float
side_of e x y = cross2 floats e.q0 e.q1 (vec2 (as_float x) (as_float y))

-- at column x, the corners of rows y and y + 1 are all above 0, or all below
unfoldable pub above_at : Ends Float → ℕ → ℕ → Bool
above_at e x y = lt floats.zero (side_of e x y) && lt floats.zero (side_of e x (y + 1))

unfoldable pub below_at : Ends Float → ℕ → ℕ → Bool
below_at e x y = lt (side_of e x y) floats.zero && lt (side_of e x (y + 1)) floats.zero

-- the edge passes the pixel's corners neither all on the one side nor all on the other
unfoldable pub parts_corners : Ends Float → Pixel → Bool
parts_corners e p = not (above_at e p.column p.row && above_at e (p.column + 1) p.row) && not (below_at e p.column p.row && below_at e (p.column + 1) p.row)

unfoldable pub covers : Ends Float → Pixel → Bool
covers e p = not (has_nan e) && (meets_square e p && parts_corners e p)
