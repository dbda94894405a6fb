-- An example beside 01's: at 2 × 2 the scan of T(0.25) visits the left column from the top, and then the right one; stopped after two visits, it has written the left one.
use Rattle.std.specs.Prelude.{◌≡◌, refl, false}
use mathlib.Core.List.{[], ◌∷◌, flat_map}
use Rattle.std.specs.Float.Ieee.{of_bits, of_int, add, sub, mul, div, neg, lt, le, eq}
use Rattle.lists.specs.Lists.{tabulate}
use Rattle.questions.specs.Questions.{empty}
use Rattle.geometry.specs.Vector.{vec3, triangle}
use Rattle.geometry.specs.Formula.{cross2, areas, total, over_total, blend}
use Rattle.geometry.specs.Leaf.{weighed, weighed_all, with_sum, weighed_with_sum, corner_weights}
use Rattle.offers.specs.Offer.{lowest, renamed, exceeds, pick, offered}
use Rattle.cells.specs.Cell.{numbered}
use Rattle.cells.specs.Layer.{layer, weights_at}
use Rattle.cells.specs.Steps.{with_weights}
use Rattle.pixels.specs.Pixel.{centre, centre_of}
use Rattle.rules.specs.declared.Facing.TheVariants.{All}
use Rattle.rules.specs.Piece as rule
use Rattle.rules.specs.Scan.{on_screen, screened, lower, upper, least, greatest, spans, between, in_closed_box, finite_in_pixels, scans, dropped, kept, counts, weighed_depth, depth_at, candidate}
use Rattle.rules.specs.Offers.{piece_brings}
use Rattle.rules.specs.Visits.{down, columnwise, visits, visited, piece_cells, stopped_after}
use Rattle.sequences.specs.Example.{zero, minus_one, three, eighth, three_eighths, quarter, half, three_quarters, blank}

abbrev piece : rule.Piece
piece = rule.piece false (triangle (vec3 minus_one minus_one quarter) (vec3 three minus_one quarter) (vec3 minus_one three quarter))

pub left_column_first : visits 2 2 (screened 2 2 piece.corners) ≡ 0 ∷ 2 ∷ 1 ∷ 3 ∷ []
unfolding flat_map tabulate down columnwise visits centre on_screen screened lower upper least greatest spans between in_closed_box finite_in_pixels scans add sub mul neg lt le eq of_bits of_int
left_column_first = refl

-- the piece as face 7
pub after_two : stopped_after 2 All 2 2 piece 7 blank ≡ layer (7 ∷ empty ∷ 7 ∷ empty ∷ []) (quarter ∷ lowest ∷ quarter ∷ lowest ∷ []) (half ∷ eighth ∷ three_eighths ∷ zero ∷ zero ∷ zero ∷ three_quarters ∷ eighth ∷ eighth ∷ zero ∷ zero ∷ zero ∷ [])
unfolding flat_map tabulate numbered weights_at with_weights renamed exceeds pick offered down columnwise visits visited piece_cells stopped_after piece_brings candidate depth_at counts weighed_depth kept dropped cross2 areas total over_total blend weighed weighed_all with_sum weighed_with_sum corner_weights centre centre_of on_screen screened lower upper least greatest spans between in_closed_box finite_in_pixels scans add sub mul div neg lt le eq of_bits of_int
after_two = refl
