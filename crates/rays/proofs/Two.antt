-- The code's 2.0 is 1 + 1.
use mathlib.Core.Path.{◌≡◌, refl}
use lib.Ieee.{binary32, of_bits, add}
use Rattle.geometry.specs.Arith.{floats}

pub two : floats.add floats.one floats.one ≡ of_bits binary32 0x4000_0000
unfolding add of_bits
two = refl
