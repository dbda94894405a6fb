-- A layer as a call is lent it.
use Rattle.std.specs.Prelude.{ℕ, zero, suc, ◌+◌, ◌*◌, ◌/◌, ◌%◌, List, Float, get_or}
use Rattle.std.specs.Float.{nan}
use Rattle.lists.specs.Lists.{tabulate}
use Rattle.geometry.specs.Vector.{Weights, weights}
use Rattle.cells.specs.Cell.{Cell, cell}

-- the map `pix2tri`, the depths `pix2depth` and the weights `pix2weights`: a number, a depth and three weights for every pixel
pub record Layer : Type 0 where
  pub pix2tri : List ℕ
  pub pix2depth : List Float
  pub pix2weights : List Float

abbrev pub layer : List ℕ → List Float → List Float → Layer
layer ns ds bs = record { pix2tri = ns; pix2depth = ds; pix2weights = bs }

-- the three weights of pixel p
unfoldable pub weights_at : List Float → ℕ → Weights Float
weights_at bs p = weights (get_or bs (3 * p) nan) (get_or bs (3 * p + 1) nan) (get_or bs (3 * p + 2) nan)

-- the cell of pixel p
abbrev pub at : Layer → ℕ → Cell
at l p = cell (get_or l.pix2depth p nan) (get_or l.pix2tri p 0) (weights_at l.pix2weights p)

-- weight k of three
unfoldable pub weight_of : Weights Float → ℕ → Float
weight_of b zero = b.b0
weight_of b (suc zero) = b.b1
weight_of b (suc (suc k)) = b.b2

-- the weights of n pixels in a row, b p of pixel p: place k is weight k % 3 of pixel k / 3
unfoldable pub all_weights : ℕ → (ℕ → Weights Float) → List Float
all_weights n b = tabulate (λ k. weight_of (b (k / 3)) (k % 3)) 0 (3 * n)

-- the layer of n pixels that holds f p at pixel p
abbrev pub pixelwise : ℕ → (ℕ → Cell) → Layer
pixelwise n f = layer (tabulate (λ p. (f p).payload.number) 0 n) (tabulate (λ p. (f p).depth) 0 n) (all_weights n (λ p. (f p).payload.weights))
