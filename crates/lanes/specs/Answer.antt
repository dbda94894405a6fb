-- The sums that count, and the depth of at most one candidate.
use Rattle.std.specs.Prelude.{Bool, ◌&&◌, List, [], ◌∷◌, Float}
use Rattle.std.specs.Float.Ieee.{lt}
use Rattle.offers.specs.Offer.{lowest}
use Rattle.cells.specs.Cell.{Candidate}
use Rattle.lanes.specs.declared.Side.{Side}

-- between the two ends, and neither of them
unfoldable pub within : Side → Float → Bool
within a s = lt a.above s && lt s a.below

-- no depth is −infinity, which is never greater than what is stored
unfoldable pub or_lowest : List Candidate → Float
or_lowest [] = lowest
or_lowest (c ∷ cs) = c.depth
