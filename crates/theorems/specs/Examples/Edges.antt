-- 01's example of edge types, one of a refusal, and a face seen edge on.
use Rattle.std.specs.Prelude.{ℕ, ◌≡◌, refl, List, [], ◌∷◌, Float}
use Rattle.std.specs.Float.{nan}
use Rattle.std.specs.Float.Ieee.{of_bits, of_int, add, sub, mul, div, neg, lt, le, eq}
use Rattle.lists.specs.Lists.{tabulate}
use Rattle.questions.specs.Questions.{Outcome, outcome, first_no, sizes, channels, groups, exact, names_face}
use Rattle.geometry.specs.Formula.{sum_of, cross2, areas, total, over_total, row, over}
use Rattle.geometry.specs.Leaf.{weighed, weighed_all, with_sum, weighed_with_sum, corner_weights, divided, project}
use Rattle.meshes.specs.Mesh.{vertex_at, face_at}
use Rattle.meshes.specs.View.{view_of, named}
use Rattle.pixels.specs.Pixel.{centre, centre_of}
use Rattle.pixels.specs.Edge.{edge_at}
use Rattle.inside.specs.Inside.{all_at_least_zero, all_inside, weights_in, contains, present, projects}
use Rattle.meshes.specs.Mesh.{all_three, project_face}
use Rattle.pairs.specs.Pairs.{edge_view, answered, all_answered}
use Rattle.pairs.specs.Gradient.{pixel_values, exact_pixels, channel_term, dldr}
use Rattle.edge_types.specs.Types.{first_in_second, second_in_first, type_of}
use Rattle.edge_types.specs.Axis.{axis_buffers, edges_of}
use Rattle.edges.specs.Calls.{EdgeBuffers, edge_buffers, edge_code, edge_typing}
use Rattle.sequences.specs.Example.{zero, one, quarter, matrix, corners}

-- faces of those vertices, 2 × 1, one channel, values 1, 0, incoming 1, 1; the buffers hold 9 and NaN before
unfoldable pub typed_of : List ℕ → List Float → List ℕ → Outcome EdgeBuffers
unfolding first_no sizes channels groups exact names_face tabulate vertex_at face_at named centre centre_of edge_at cross2 areas total over_total row over weighed weighed_all with_sum weighed_with_sum corner_weights divided project all_at_least_zero all_inside all_three project_face weights_in contains present projects first_in_second second_in_first type_of answered all_answered sum_of channel_term dldr exact_pixels edges_of edge_code edge_typing add sub mul div neg lt le eq of_bits of_int
typed_of tri xyz map =
    edge_typing tri map 1 (edge_view (view_of tri map) (matrix zero one) xyz 2) (pixel_values (one ∷ zero ∷ []) (one ∷ one ∷ []) 1)
    (edge_buffers (axis_buffers [] []) (axis_buffers (9 ∷ []) (nan ∷ [])))

-- T(0.25)
abbrev pub typed : List ℕ → Outcome EdgeBuffers
typed = typed_of (0 ∷ 1 ∷ 2 ∷ []) (corners quarter)

-- accepted: the one edge has that type, and `dldr` 1
abbrev pub typed_as : ℕ → Outcome EdgeBuffers
typed_as type = outcome 0 (edge_buffers (axis_buffers [] []) (axis_buffers (type ∷ []) (one ∷ [])))

-- An entry that names no face is refused with 7, and the buffers stay.
pub no_such_face : typed (0 ∷ 1 ∷ []) ≡ outcome 7 (edge_buffers (axis_buffers [] []) (axis_buffers (9 ∷ []) (nan ∷ [])))
unfolding typed_of
no_such_face = refl

-- 02, Point 4: a floor, and on its edge a wall that is seen edge on. No centre is inside.
pub seen_edge_on : typed_of (0 ∷ 1 ∷ 2 ∷ 0 ∷ 1 ∷ 3 ∷ []) (zero ∷ zero ∷ zero ∷ one ∷ zero ∷ zero ∷ zero ∷ one ∷ zero ∷ zero ∷ zero ∷ one ∷ []) (0 ∷ 1 ∷ []) ≡ typed_as 0
unfolding typed_of
seen_edge_on = refl
