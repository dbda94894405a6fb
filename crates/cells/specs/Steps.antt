-- What the steps of the calls ask and promise: one pixel of a layer.
use Rattle.std.specs.Prelude.{ℕ, ◌+◌, ◌*◌, ◌<◌, ◌≡◌, List, Float, length, set}
use Rattle.geometry.specs.Vector.{Weights}
use Rattle.offers.specs.Offer.{pick}
use Rattle.cells.specs.Cell.{Cell}
use Rattle.cells.specs.Layer.{Layer, layer, at}

-- the buffers have n places, and three times as many for weights
pub record Spans (l : Layer) (n : ℕ) : Type 0 where
  pub numbers : length l.pix2tri ≡ n
  pub depths : length l.pix2depth ≡ n
  pub weights : length l.pix2weights ≡ 3 * n

-- the buffers have the places of pixel p
pub record Reaches (l : Layer) (p : ℕ) : Type 0 where
  pub numbers : p < length l.pix2tri
  pub depths : p < length l.pix2depth
  pub weights : 3 * p + 2 < length l.pix2weights

-- the weights b at pixel p
unfoldable pub with_weights : List Float → ℕ → Weights Float → List Float
with_weights bs p b = set (set (set bs (3 * p) b.b0) (3 * p + 1) b.b1) (3 * p + 2) b.b2

-- the layer with the cell c at pixel p
abbrev pub written : Layer → ℕ → Cell → Layer
written l p c = layer (set l.pix2tri p c.payload.number) (set l.pix2depth p c.depth) (with_weights l.pix2weights p c.payload.weights)

-- a cell brought to pixel p: it is written only where its depth is greater than the stored one
unfoldable pub stepped : Layer → ℕ → Cell → Layer
stepped l p c = written l p (pick (at l p) c)
