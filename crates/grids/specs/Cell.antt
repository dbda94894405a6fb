-- Where a coordinate stands in a row of grid places: its cell, and the fraction of the way to the next place.
use Rattle.std.specs.Prelude.{ℕ, ◌+◌, ◌-◌, ◌*◌, ◌/◌, min, cond, Float}
use Rattle.std.specs.Float.{nan, inf, fin}
use Rattle.std.specs.Float.Ieee.{up, down, lt}
use Rattle.geometry.specs.Arith.{floats}
use Rattle.pixels.specs.Pixel.{as_float}

-- "the cell is the greatest whole number not above the coordinate, held between 0 and" `most`, "0 for NaN"
unfoldable pub cell : ℕ → Float → ℕ
cell most nan = 0
cell most (inf s) = cond s 0 most
cell most (fin s m e) = cond s 0 (min (m * up e / down e) most)

-- Rust's clamp(0., 1.): NaN and −0 pass
unfoldable pub clamp_unit : Float → Float
clamp_unit x = cond (lt x floats.zero) floats.zero (cond (lt floats.one x) floats.one x)

-- between the grid places `low` and `high`, at the fraction t
pub record Stand : Type 0 where
  pub low : ℕ
  pub high : ℕ
  pub t : Float

abbrev pub stand : ℕ → ℕ → Float → Stand
stand low high t = record { low = low; high = high; t = t }

unfoldable pub stand_from : ℕ → Float → ℕ → Stand
stand_from places x i = stand i (min (i + 1) (places - 1)) (clamp_unit (floats.sub x (as_float i)))

-- the coordinate x along a side of `size` pixels, on which the grid has `places`
unfoldable pub stand_at : ℕ → ℕ → Float → Stand
stand_at size places x = stand_from places x (cell (size - 2) x)
