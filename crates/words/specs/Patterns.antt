-- The pattern by which a float is written. Assumes nothing.
use Rattle.std.specs.Prelude.{ℕ, ◌+◌, ◌*◌, ◌/◌, cond, Float}
use Rattle.std.specs.Float.{Format}
use Rattle.std.specs.Float.Ieee.{is_nan, to_bits, hid, ones}

-- the quiet NaN with no payload, for every NaN
unfoldable pub pattern_of : Format → Float → ℕ
pattern_of f x = cond (is_nan x) (ones f * hid f + hid f / 2) (to_bits f x)
