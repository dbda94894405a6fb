-- Sums that corner weights are over.
use Rattle.std.specs.Prelude.{◌≡◌, true, false, Float}
use Rattle.std.specs.Float.Ieee.{eq}
use Rattle.std.specs.Float.Ieee.Scale.{finite}
use Rattle.geometry.specs.Arith.{floats}

-- it is finite, and never 0
pub record Weighs (s : Float) : Type 0 where
  pub is_finite : finite s ≡ true
  pub not-zero : eq s floats.zero ≡ false
