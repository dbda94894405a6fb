-- The library's test of a finite float is the document's.
use Rattle.std.specs.Prelude.{◌≡◌, refl, Float}
use Rattle.std.specs.Float.{float_is_finite}
use lib.Ieee.{nan, inf, fin}
use Rattle.std.specs.Float.Ieee.Scale.{finite}

pub is_finite : (x : Float) → float_is_finite x ≡ finite x
unfolding float_is_finite
is_finite nan = refl
is_finite (inf s) = refl
is_finite (fin s m x) = refl
