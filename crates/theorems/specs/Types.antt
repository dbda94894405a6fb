-- 02, Point 4: what the type of a pair says of `bwd`. The law is about the test of `bwd`, so no question is asked.
use Rattle.std.specs.Prelude.{◌≡◌, Bool, true, false, ◌||◌, cond}
use mathlib.Core.List.{List, []}
use Rattle.pixels.specs.Pixel.{centre_of}
use Rattle.pixels.specs.Edge.{Axis, Edge}
use Rattle.pairs.specs.Pairs.{EdgeView, first_of, second_of, equal_entries}
use Rattle.pairs.specs.Gradient.{PixelValues}
use Rattle.edge_types.specs.Types.{first_in_second, second_in_first, type_of}
use Rattle.share_rules.specs.Shares.{Share, alone, intersection, received, shares_at}
use Rattle.share_rules.specs.Additions.{pair_additions}

-- the shares of a pair, picked by the two answers that make its type
abbrev pub picked : Axis → EdgeView → Edge → List Share
picked a s e =
    let g0 = s.view.at (first_of s.width e) in
    let g1 = s.view.at (second_of s.width e) in
    cond (equal_entries s e) []
    (received (first_in_second s e) (second_in_first s e) (intersection a.down s.matrix s.vertices g0 g1 (centre_of e.first) (centre_of e.second))
    (alone a.down g0 (centre_of e.first)) (alone a.down g1 (centre_of e.second)))

-- by whether the entries are equal, and each centre inside: unequal, and one at least is
abbrev pub OneYes : Bool → Bool → Bool → Type 0
OneYes equal first second = (equal ≡ false) × ((first || second) ≡ true)

-- an unequal pair where at least one centre is inside
abbrev pub OneInside : EdgeView → Edge → Type 0
OneInside s e = OneYes (equal_entries s e) (first_in_second s e) (second_in_first s e)

pub record TypeSays (a : Axis) (s : EdgeView) (v : PixelValues) (e : Edge) : Type 0 where
  -- the test is that of `bwd`: so picked, they are its shares
  pub tested : shares_at a s e ≡ picked a s e
  -- type 1 stands at the pairs where it has a centre inside, and nowhere else ..
  pub one : (type_of s e ≡ 1 → OneInside s e) × (OneInside s e → type_of s e ≡ 1)
  -- .. which have type 0
  pub zero : (OneInside s e → ⊥) → type_of s e ≡ 0
  -- a pair of type 0 adds nothing in `bwd`
  pub nothing : type_of s e ≡ 0 → pair_additions a s v e ≡ []
