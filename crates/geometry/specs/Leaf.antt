-- 01's leaves at f32, with their tests: what has an answer and what has none.
use Rattle.std.specs.Prelude.{ℕ, not, ◌&&◌, cond, List, get_or, Float}
use Rattle.std.proofs.Math.Option.{Option, none, some}
use Rattle.std.specs.Float.Ieee.Scale.{finite}
use Rattle.std.specs.Float.{nan}
use Rattle.std.specs.Float.Ieee.{eq}
use Rattle.geometry.specs.Arith.{floats}
use Rattle.geometry.specs.Vector.{Vec2, Vec3, Weights, Weighed, weighed_by, Projected}
use Rattle.geometry.specs.Formula.{areas, total, over_total, row, over}

-- Either three weights a/s, or none, when s is 0 or not finite
unfoldable pub weighed : Weights Float → Float → Option (Weights Float)
weighed a s = cond (finite s && not (eq s floats.zero)) (some (over_total floats a s)) none

unfoldable pub weighed_all : Weights Float → Option (Weights Float)
weighed_all a = weighed a (total floats a)

-- 02, Point 8: where there are weights, s beside them
unfoldable pub with_sum : Float → Option (Weights Float) → Option (Weighed Float)
with_sum s none = none
with_sum s (some b) = some (weighed_by b s)

unfoldable pub weighed_with_sum : Weights Float → Option (Weighed Float)
weighed_with_sum a = with_sum (total floats a) (weighed_all a)

-- the corner weights of q in the triangle p0, p1, p2, and s, the doubled signed area
unfoldable pub corner_weights : Vec2 Float → Vec2 Float → Vec2 Float → Vec2 Float → Option (Weighed Float)
corner_weights q p0 p1 p2 = weighed_with_sum (areas floats q p0 p1 p2)

-- a matrix has 16 numbers, column-major
abbrev pub entries : List Float → ℕ → Float
entries m k = get_or m k nan

-- no answer when y3 is 0
unfoldable pub divided : Float → Float → Float → Float → Option (Projected Float)
divided y0 y1 y2 y3 = cond (eq y3 floats.zero) none (some (over floats y0 y1 y2 y3))

-- the projection of x by the matrix m
unfoldable pub project : List Float → Vec3 Float → Option (Projected Float)
project m x = divided (row floats (entries m) 0 x) (row floats (entries m) 1 x) (row floats (entries m) 2 x) (row floats (entries m) 3 x)
