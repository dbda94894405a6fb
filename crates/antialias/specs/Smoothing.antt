-- What a crossing writes in `pix2vout`.
use Rattle.std.specs.Prelude.{ℕ, cond, List, [], ◌∷◌, get_or, set, Float}
use Rattle.std.specs.List.{fold}
use Rattle.std.specs.Float.{nan}
use Rattle.std.specs.Float.Ieee.{lt}
use Rattle.geometry.specs.Arith.{floats}
use Rattle.pixels.specs.Pixel.{half}
use Rattle.outlines.specs.Formula.{mixed}
use Rattle.outline_views.specs.Outline.{Met}

-- `value`, to be stored at `place`
pub record Write : Type 0 where
  pub place : ℕ
  pub value : Float

abbrev pub write : ℕ → Float → Write
write p x = record { place = p; value = x }

unfoldable pub wrote : List Float → Write → List Float
wrote out w = set out w.place w.value

-- after all, in order: of several at one place the last stands
unfoldable pub written : List Float → List Write → List Float
written out ws = fold wrote out ws

abbrev pub pixel_value : List Float → ℕ → Float
pixel_value vals p = get_or vals p nan

-- r0 of the value of the pixel that shows a face, and the rest of the empty one's
abbrev pub mixed_at : List Float → Met → Float → Float
mixed_at vin k r0 = mixed floats r0 (pixel_value vin k.first) (pixel_value vin k.second)

-- Where rc is below 0.5 the edge lies in the pixel that shows a face, which keeps 0.5 + rc of its value; else in the empty one, which gets rc − 0.5 of it.
unfoldable pub smoothed : List Float → Met → Write
smoothed vin k =
    cond (lt k.crossing.rc half) (write k.first (mixed_at vin k (floats.add half k.crossing.rc))) (write k.second (mixed_at vin k (floats.sub k.crossing.rc half)))

-- the one write of a crossing
unfoldable pub writes : List Float → Met → List Write
writes vin k = smoothed vin k ∷ []
