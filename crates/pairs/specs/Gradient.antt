-- `dldr` of an edge: what the loss gains as the edge moves, from the values beside it and their incoming gradients.
use Rattle.std.specs.Prelude.{ℕ, ◌+◌, ◌*◌, Bool, ◌&&◌, List, length, get_or, Float}
use Rattle.std.specs.Float.{nan}
use Rattle.questions.specs.Questions.{exact}
use Rattle.geometry.specs.Arith.{floats}
use Rattle.geometry.specs.Formula.{sum_of}
use Rattle.pixels.specs.Pixel.{half}
open floats use {add as ◌⊕◌, sub as ◌⊖◌, mul as ◌⊗◌}

infixl 6 ◌⊕◌
infixl 6 ◌⊖◌
infixl 7 ◌⊗◌
-- the values `pix2val`, their gradients `dldw_pix2val`, and the channels per pixel
pub record PixelValues : Type 0 where
  pub values : List Float
  pub gradients : List Float
  pub channels : ℕ

abbrev pub pixel_values : List Float → List Float → ℕ → PixelValues
pixel_values vals dvals c = record { values = vals; gradients = dvals; channels = c }

-- 4, of the map and of these, in an image of w times h pixels
unfoldable pub exact_pixels : ℕ → ℕ → List ℕ → PixelValues → Bool
exact_pixels w h map v =
    exact (w * h) (length map) && (exact (w * h * v.channels) (length v.values) && exact (w * h * v.channels) (length v.gradients))

-- one channel of a pair, at the places i and j of the gradients and the values: (dval0 + dval1) * 0.5 * (val0 - val1)
unfoldable pub channel_term : List Float → List Float → ℕ → ℕ → Float
channel_term dvals vals i j = (get_or dvals i nan ⊕ get_or dvals j nan) ⊗ half ⊗ (get_or vals i nan ⊖ get_or vals j nan)

-- `dldr` of the pixels p and q: the sum over the channels
unfoldable pub dldr : PixelValues → ℕ → ℕ → Float
dldr v p q = sum_of floats (λ k. channel_term v.gradients v.values (p * v.channels + k) (q * v.channels + k)) v.channels
