-- A crossing at f32, with its tests.
use Rattle.std.specs.Prelude.{Bool, not, ◌&&◌, ◌||◌, cond, Float}
use Rattle.std.proofs.Math.Option.{Option, none, some}
use Rattle.std.specs.Float.Ieee.{lt, le, eq, is_nan}
use Rattle.geometry.specs.Arith.{floats}
use Rattle.geometry.specs.Vector.{Vec2}
use Rattle.outlines.specs.Formula.{Ends, Crossing, crossing_of}

-- "there is none when d is 0 or NaN, when rc is not in [0,1), or when re is not in [0,1]"
unfoldable pub crosses : Crossing Float → Bool
crosses k =
    not (eq k.d floats.zero || is_nan k.d)
    && ((le floats.zero k.rc && lt k.rc floats.one) && (le floats.zero k.re && le k.re floats.one))

unfoldable pub if_crosses : Crossing Float → Option (Crossing Float)
if_crosses k = cond (crosses k) (some k) none

-- of the way from c0 to c1 and an edge
unfoldable pub crossing_between : Vec2 Float → Vec2 Float → Ends Float → Option (Crossing Float)
crossing_between c0 c1 e = if_crosses (crossing_of floats c0 c1 e)
