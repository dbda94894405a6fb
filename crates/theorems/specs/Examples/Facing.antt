-- Examples beside 01's: T(0.25) runs counter-clockwise on the picture, a back piece. Front pieces only, it draws nothing, and with two corners exchanged it is
-- drawn. Listed turned round, its sums count below 0.
use Rattle.std.specs.Prelude.{◌≡◌, refl, Bool, true, false}
use mathlib.Core.List.{[], ◌∷◌, flat_map}
use Rattle.lists.specs.Lists.{tabulate}
use Rattle.questions.specs.Questions.{outcome}
use Rattle.geometry.specs.Vector.{vec3, triangle}
use Rattle.cells.specs.Layer.{Layer, layer}
use Rattle.cells.specs.Steps.{with_weights}
use Rattle.rules.specs.declared.Facing.TheVariants.{Front}
use Rattle.rules.specs.Piece.{piece}
use Rattle.rules.specs.Visits.{down, columnwise, visits, visited, piece_cells, stopped_after}
use Rattle.sequences.specs.Example.{zero, one, minus_one, three, quarter, corners, four, blank, in_t, in_exchanged_t, faced}

pub back-piece : faced 1 blank (0 ∷ 1 ∷ 2 ∷ []) (corners quarter) zero one ≡ outcome 0 blank
unfolding faced
back-piece = refl

pub front-piece : faced 1 blank (0 ∷ 2 ∷ 1 ∷ []) (corners quarter) zero one ≡ outcome 0 (layer (four 0) (four quarter) in_exchanged_t)
unfolding faced
front-piece = refl

-- every number but 0 is front pieces only
pub any_other_number : faced 4294967295 blank (0 ∷ 1 ∷ 2 ∷ []) (corners quarter) zero one ≡ outcome 0 blank
unfolding faced
any_other_number = refl

-- what the scan of T(0.25) leaves as face 7
abbrev scanned : Bool → Layer
scanned turned = stopped_after 4 Front 2 2 (piece turned (triangle (vec3 minus_one minus_one quarter) (vec3 three minus_one quarter) (vec3 minus_one three quarter))) 7 blank

pub listed_straight : scanned false ≡ blank
unfolding faced flat_map tabulate with_weights down columnwise visits visited piece_cells stopped_after
listed_straight = refl

pub listed_turned : scanned true ≡ layer (four 7) (four quarter) in_t
unfolding faced flat_map tabulate with_weights down columnwise visits visited piece_cells stopped_after
listed_turned = refl
