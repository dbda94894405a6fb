-- What a layer holds at one pixel: a depth, and of the candidate that brought it the face's number and the weights.
use Rattle.std.specs.Prelude.{ℕ, List, map, Float}
use Rattle.geometry.specs.Arith.{floats}
use Rattle.geometry.specs.Vector.{Weights, weights}
use Rattle.offers.specs.Offer.{Offer, offer, renamed, lowest}
use Rattle.questions.specs.Questions.{empty}

-- 02, Point 9: a candidate, the depth that a piece brings a pixel with its three weights there, over the corners of the piece
abbrev pub Candidate : Type 0
Candidate = Offer (Weights Float)

-- what a pixel holds beside its depth, both of the candidate that wrote the depth: the number of its face, and its weights
pub record Hit : Type 0 where
  pub number : ℕ
  pub weights : Weights Float

abbrev pub hit : ℕ → Weights Float → Hit
hit n b = record { number = n; weights = b }

abbrev pub Cell : Type 0
Cell = Offer Hit

abbrev pub cell : Float → ℕ → Weights Float → Cell
cell d n b = offer d (hit n b)

-- the candidates of a face numbered k
unfoldable pub numbered : ℕ → List Candidate → List Cell
numbered k cs = map (renamed (hit k)) cs

-- "clearing (depth −infinity, map 4294967295, called empty)", "and three zeros when cleared"
abbrev pub no_hit : Hit
no_hit = hit empty (weights floats.zero floats.zero floats.zero)

abbrev pub clear : Cell
clear = offer lowest no_hit
