-- What the steps promise of a pair whose entries are not equal.
use Rattle.std.specs.Prelude.{ℕ, ◌*◌, ◌<◌, ◌≡◌}
use Rattle.pixels.specs.Edge.{Axis, Edge}
use Rattle.pairs.specs.Pairs.{EdgeView, first_of, second_of}
use Rattle.share_rules.specs.Shares.{shares_at}
use Rattle.share_rules.specs.Sides.{SidesProject, shares_of}
use Rattle.share_rules.specs.declared.Unequal.{Unequal}

-- the code's pair r is the pair e, of an image h high; what it shows has its projections
pub record UnequalAt (a : Axis) (s : EdgeView) (h : ℕ) (e : Edge) (r : Unequal) : Type 0 where
  pub p_number : r.p ≡ first_of s.width e
  pub p_below : r.p < s.width * h
  pub q_number : r.q ≡ second_of s.width e
  pub q_below : r.q < s.width * h
  pub projects : SidesProject s.matrix s.vertices r.sides
  pub shares : shares_at a s e ≡ shares_of a.down s.matrix s.vertices r.sides
