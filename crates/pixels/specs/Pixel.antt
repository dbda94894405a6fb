-- A pixel by its column and its row, and its centre (ix+0.5, iy+0.5).
use Rattle.std.specs.Prelude.{ℕ, ◌+◌, ◌*◌, pos, Float}
use Rattle.std.specs.Float.{binary32}
use Rattle.std.specs.Float.Ieee.{of_int, of_bits}
use Rattle.geometry.specs.Arith.{floats}
use Rattle.geometry.specs.Vector.{Vec2, vec2}

-- 0.5, and a whole number, as f32
abbrev pub half : Float
half = of_bits binary32 0x3f00_0000

abbrev pub as_float : ℕ → Float
as_float n = of_int binary32 (pos n)

pub record Pixel : Type 0 where
  pub column : ℕ
  pub row : ℕ

abbrev pub pixel : ℕ → ℕ → Pixel
pixel x y = record { column = x; row = y }

-- its number in an image w wide
abbrev pub number_in : ℕ → Pixel → ℕ
number_in w p = p.row * w + p.column

-- the centre of column or row i
unfoldable pub centre : ℕ → Float
centre i = floats.add (as_float i) half

unfoldable pub centre_of : Pixel → Vec2 Float
centre_of p = vec2 (centre p.column) (centre p.row)
