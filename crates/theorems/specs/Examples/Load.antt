-- An example beside 01's: at 2 × 2, T(0.25) is one piece and is offered four pixels; a face with a corner that is not finite is a piece more, and is offered none.
use Rattle.std.specs.Prelude.{ℕ, ◌≡◌, refl, false}
use mathlib.Core.List.{List, [], ◌∷◌, ◌++◌, sum}
use Rattle.std.specs.Float.{inf}
use Rattle.std.specs.Float.Ieee.{of_bits, of_int, add, sub, mul, div, neg, lt, le, eq}
use Rattle.lists.specs.Lists.{tabulate, sum_of, count}
use Rattle.questions.specs.Questions.{Outcome, outcome, first_no, sizes, groups}
use Rattle.geometry.specs.Formula.{row, over}
use Rattle.geometry.specs.Leaf.{divided, project}
use Rattle.meshes.specs.Mesh.{faces_of, vertex_at}
use Rattle.pixels.specs.Pixel.{centre}
use Rattle.rules.specs.Piece.{scored, whole, corners_pieces, projected_pieces, pieces}
use Rattle.rules.specs.Scan.{on_screen, screened, lower, upper, least, greatest, spans, between, in_closed_box, finite_in_pixels, scans}
use Rattle.rules.specs.Offers.{face_pieces}
use Rattle.rules.specs.Load.{charge, piece_pixels, face_pixels, Load, load, load_of, load_code, loading}
use Rattle.sequences.specs.Example.{zero, one, quarter, matrix, corners}

-- the faces over T(0.25)'s vertices and a fourth, whose first coordinate is infinite
unfoldable pub loaded : List ℕ → Outcome Load
unfolding first_no sizes groups tabulate sum_of sum count row over divided project faces_of vertex_at centre scored whole corners_pieces projected_pieces pieces on_screen screened lower upper least greatest spans between in_closed_box finite_in_pixels scans face_pieces charge piece_pixels face_pixels load_of load_code loading add sub mul div neg lt le eq of_bits of_int
loaded tri = loading tri (corners quarter ++ inf false ∷ zero ∷ zero ∷ []) 2 2 (matrix zero one)

pub not_finite : loaded (0 ∷ 1 ∷ 2 ∷ 0 ∷ 1 ∷ 3 ∷ []) ≡ outcome 0 (load 2 4)
unfolding loaded
not_finite = refl

-- a face that names vertex 4 of four
pub refused : loaded (0 ∷ 1 ∷ 4 ∷ []) ≡ outcome 6 (load 0 0)
unfolding loaded
refused = refl
