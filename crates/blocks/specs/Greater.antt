-- Visits that are left out where a depth is not greater than the stored one.
use Rattle.std.specs.Prelude.{ℕ, ◌+◌, ◌*◌, cond, List, [], ◌∷◌, Float}
use Rattle.std.specs.Float.Ieee.{lt}
use Rattle.cells.specs.Cell.{Cell}
use Rattle.cells.specs.Layer.{Layer, at}
use Rattle.rules.specs.Visits.{visited}

unfoldable pub if_greater : (ℕ → List Cell) → ℕ → Float → Layer → Layer
if_greater os p z l = cond (lt (at l p).depth z) (visited os (p ∷ []) l) l

-- two pixels of column ix, rows iy and iy + 1
unfoldable pub two_if_greater : (ℕ → List Cell) → ℕ → ℕ → ℕ → Float → Float → Layer → Layer
two_if_greater os w ix iy z0 z1 l = if_greater os ((iy + 1) * w + ix) z1 (if_greater os (iy * w + ix) z0 l)

-- four, from row iy on
unfoldable pub four_if_greater : (ℕ → List Cell) → ℕ → ℕ → ℕ → Float → Float → Float → Float → Layer → Layer
four_if_greater os w ix iy z0 z1 z2 z3 l = two_if_greater os w ix (iy + 2) z2 z3 (two_if_greater os w ix iy z0 z1 l)
