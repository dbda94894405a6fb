-- Sums into an accumulator: additions, one after the other, each rounding once, so that every place has one order of its sum.
use Rattle.std.specs.Prelude.{ℕ, ◌+◌, ◌*◌, List, [], ◌∷◌, get_or, set, Float}
use Rattle.std.specs.List.{fold}
use Rattle.std.specs.Float.{nan}
use Rattle.geometry.specs.Arith.{floats}
use Rattle.geometry.specs.Vector.{Vec3}

-- `amount`, to be added at `place`
pub record Addition : Type 0 where
  pub place : ℕ
  pub amount : Float

abbrev pub addition : ℕ → Float → Addition
addition i x = record { place = i; amount = x }

-- x, to the three coordinates of vertex v
unfoldable pub at_vertex : ℕ → Vec3 Float → List Addition
at_vertex v x = addition (3 * v) x.x ∷ addition (3 * v + 1) x.y ∷ addition (3 * v + 2) x.z ∷ []

-- the accumulator after one addition
unfoldable pub added : List Float → Addition → List Float
added sums a = set sums a.place (floats.add (get_or sums a.place nan) a.amount)

-- and after all, in order
unfoldable pub summed : List Float → List Addition → List Float
summed sums as' = fold added sums as'
