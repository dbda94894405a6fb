-- The library's pattern of a float is the one by which it is written here.
use Rattle.std.specs.Prelude.{◌≡◌, refl, Float}
use Rattle.std.specs.Float.{nan, inf, fin, Format}
use Rattle.std.specs.Float.Ieee.{is_nan, to_bits}
use Rattle.words.specs.Patterns.{pattern_of}

pub pattern_is : (f : Format) (x : Float) → to_bits f x ≡ pattern_of f x
unfolding pattern_of is_nan to_bits
pattern_is f nan = refl
pattern_is f (inf s) = refl
pattern_is f (fin s m e) = refl
