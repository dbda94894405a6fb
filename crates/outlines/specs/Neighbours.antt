-- The pairs of a pixel and its neighbours across or down, as in the Rust.
use Rattle.std.specs.Prelude.{ℕ, zero, suc, ◌+◌, ◌-◌, Bool, ◌&&◌, cond, ltb, Float}
use Rattle.std.specs.Float.{float_with_sign}
use Rattle.std.specs.Float.Ieee.{lt}
use Rattle.std.proofs.Math.Bool.{false}
use Rattle.geometry.specs.Arith.{floats}
use Rattle.pixels.specs.Pixel.{Pixel, pixel}
use Rattle.pixels.specs.Edge.{Axis, hedge, vedge, Edge}
use Rattle.outlines.specs.Formula.{Ends}

-- |x|: of −0, 0
abbrev pub absolute : Float → Float
absolute x = float_with_sign false x

-- The edge goes farther down than across: its pixels are paired with those beside them, else with those above and below.
unfoldable pub is_steep : Ends Float → Bool
is_steep e = lt (absolute (floats.sub e.q1.x e.q0.x)) (absolute (floats.sub e.q1.y e.q0.y))

unfoldable pub pair_axis : Ends Float → Axis
pair_axis e = cond (is_steep e) vedge hedge

-- along the axis: the pixel before, and the one after
abbrev pub before : Axis → Pixel → Pixel
before a p = pixel (p.column - a.right) (p.row - a.down)

abbrev pub after : Axis → Pixel → Pixel
after a p = pixel (p.column + a.right) (p.row + a.down)

abbrev pub pair : Pixel → Pixel → Edge
pair p q = record { first = p; second = q }

-- number k of a pixel's four pairs: to the one before and back, and to the one after and back
unfoldable pub neighbour_pair : Axis → Pixel → ℕ → Edge
neighbour_pair a p zero = pair p (before a p)
neighbour_pair a p (suc zero) = pair (before a p) p
neighbour_pair a p (suc (suc zero)) = pair p (after a p)
neighbour_pair a p (suc (suc (suc k))) = pair (after a p) p

-- "Pixels on the image border are passed over": it has a neighbour on each side
unfoldable pub off_border : ℕ → ℕ → Pixel → Bool
off_border w h p = (ltb 0 p.column && ltb (p.column + 1) w) && (ltb 0 p.row && ltb (p.row + 1) h)
