-- 02, Point 1: "the ends of an outline edge may gain gradient though no face in the map has them".
use Rattle.std.specs.Prelude.{ℕ, ◌<◌, ◌≡◌, refl, List, [], ◌∷◌, ◌++◌, Float}
use Rattle.std.proofs.Common.{arith}
use Rattle.std.specs.Float.{float_with_sign}
use Rattle.std.specs.Float.Ieee.{of_bits, of_int, add, sub, mul, div, neg, lt, le, eq, is_nan}
use mathlib.Core.List.{flat_map}
use Rattle.lists.specs.Lists.{tabulate}
use Rattle.questions.specs.Questions.{outcome, empty, first_no, sizes, groups, exact}
use Rattle.geometry.specs.Formula.{row, over, cross2}
use Rattle.geometry.specs.Leaf.{divided, project}
use Rattle.jacobians.specs.Formula.{project_untested, jacobian_entry, jacobian_column, jacobian_at, jacobian}
use Rattle.meshes.specs.Mesh.{vertex_at, face_at}
use Rattle.meshes.specs.View.{entry_at}
use Rattle.meshes.specs.Sums.{at_vertex, added, summed}
use Rattle.pixels.specs.Pixel.{centre, centre_of}
use Rattle.inside.specs.Inside.{present}
use Rattle.outlines.specs.Formula.{minus2, perp_dot, scaled2, crossing_from, crossing_of, crossing_gradient, end_shares, crossing_backward, mixed}
use Rattle.outlines.specs.Leaf.{crosses, if_crosses, crossing_between}
use Rattle.outlines.specs.Covered.{has_nan, meets_side, meets_square, side_of, above_at, below_at, parts_corners, covers}
use Rattle.outlines.specs.Neighbours.{is_steep, pair_axis, neighbour_pair, off_border}
use Rattle.outline_views.specs.Outline.{OutlineView, outline_view, shown_in, outline_edge_at, both_ends, project_edge, met_at, pair_met, pixel_met, covered_met, edge_met, edge_items, outline_items, edge_projects, exact_images, outline_code}
use Rattle.antialias.specs.Smoothing.{wrote, written, smoothed, writes}
use Rattle.antialias.specs.Calls.{antialias_code, antialias_writes, antialiasing}
use Rattle.antialias_bwd.specs.Formula.{pulled_back}
use Rattle.antialias_bwd.specs.Additions.{crossing_dldr, to_ends, met_additions, crossing_additions}
use Rattle.antialias_bwd.specs.Calls.{bwd_antialias_code, outline_additions, antialiasing_bwd}
use Rattle.sequences.specs.Example.{zero, one, quarter, three_quarters, four, matrix}
use Rattle.theorems.specs.Examples.Values.{word}
use Rattle.theorems.specs.Gradients.{Unnamed}

-- of 3 × 3 pixels: x at the one that is off the border, y at the eight others
abbrev pub amid : {A : Type 0} → A → A → List A
amid x y = four y ++ x ∷ four y

-- it shows face 0, and all others are empty
abbrev pub map : List ℕ
map = amid 0 empty

-- the only face, of vertices 2, 3 and 4
abbrev pub tri : List ℕ
tri = 2 ∷ 3 ∷ 4 ∷ []

abbrev two : Float
two = word 0x4000_0000

abbrev seven_quarters : Float
seven_quarters = word 0x3fe0_0000

-- in pixels: vertex 1 right below vertex 0, and that face's about the pixel's centre
abbrev pub vertices : List Float
vertices = seven_quarters ∷ zero ∷ zero ∷ seven_quarters ∷ two ∷ zero ∷ one ∷ one ∷ zero ∷ two ∷ one ∷ zero ∷ one ∷ two ∷ zero ∷ []

-- the only outline edge is of vertices 0 and 1
abbrev pub seen : OutlineView
seen = outline_view (shown_in map) (0 ∷ 1 ∷ []) (matrix zero one) vertices 3 3

-- gradients of the five vertices: a and b in the first coordinates of vertices 0 and 1, and 0 elsewhere
abbrev pub gradients : Float → Float → List Float
gradients a b = a ∷ zero ∷ zero ∷ b ∷ zero ∷ zero ∷ amid zero zero

-- no face in the map has an end of it
pub not_in_map : (v : ℕ) → v < 2 → Unnamed tri map v
unfolding face_at
not_in_map v l p h = let first : entry_at map p ≡ 0 = omega arith in rw first ((λ e. omega arith), (λ e. omega arith), (λ e. omega arith))

-- The edge lies a quarter to the right of the pixel's centre, a quarter of the way from vertex 1 to vertex 0. The pixel has 1, its neighbours 0, and 1 comes in:
-- smoothed, the pixel has three quarters, and backward both ends gain.
pub ends_gain : (antialiasing seen map (amid one zero) (amid one zero) ≡ outcome 0 (amid three_quarters zero))
    × (antialiasing_bwd seen map (amid one zero) (amid one zero) (gradients zero zero) ≡ outcome 0 (gradients quarter three_quarters))
unfolding tabulate flat_map float_with_sign first_no sizes groups exact row over cross2 divided project project_untested jacobian_entry jacobian_column jacobian_at jacobian vertex_at added summed centre centre_of present minus2 perp_dot scaled2 crossing_from crossing_of crossing_gradient end_shares crossing_backward mixed crosses if_crosses crossing_between has_nan meets_side meets_square side_of above_at below_at parts_corners covers is_steep pair_axis neighbour_pair off_border outline_edge_at both_ends project_edge met_at pair_met pixel_met covered_met edge_met edge_items outline_items edge_projects exact_images outline_code wrote written smoothed writes antialias_code antialias_writes antialiasing pulled_back crossing_dldr at_vertex to_ends met_additions crossing_additions bwd_antialias_code outline_additions antialiasing_bwd of_bits of_int add sub mul div neg lt le eq is_nan
ends_gain = (refl, refl)
