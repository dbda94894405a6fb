-- 01's example of values, and one of an empty pixel.
use Rattle.std.specs.Prelude.{ℕ, ◌≡◌, refl, List, [], ◌∷◌, Float}
use Rattle.std.specs.Float.{nan, binary32}
use Rattle.std.specs.Float.Ieee.{of_bits, of_int, add, sub, mul, div, neg, eq}
use Rattle.lists.specs.Lists.{tabulate}
use Rattle.questions.specs.Questions.{Outcome, outcome, empty, first_no, sizes, channels, groups, exact, names_face}
use Rattle.geometry.specs.Formula.{blend, row, over}
use Rattle.geometry.specs.Leaf.{divided, project}
use Rattle.pixels.specs.Pixel.{centre}
use Rattle.rays.specs.Space.{minus3, dot3, cross3, along3, across, down}
use Rattle.rays.specs.Plane.{normal, distance, hit, weight, weights_at, weights_on, plane_weights}
use Rattle.rays.specs.Pixel.{ray_between, ray_at, column_at, row_at, pixel_ray}
use Rattle.meshes.specs.Mesh.{face_at, vertex_at, corners_at}
use Rattle.meshes.specs.View.{named}
use Rattle.pixel_rays.specs.Rays.{image, ray_of, answered, rays_answer}
use Rattle.vertex_values.specs.Pass.{vertices}
use Rattle.vertex_values.specs.Questions.{exact_counts, pass_code}
use Rattle.pixel_values.specs.Pixel.{blend_of, value_at}
use Rattle.values.specs.Interpolate.{value_in, interpolated, interpolate_code, interpolating}
use Rattle.sequences.specs.Example.{zero, one, quarter, matrix, corners}

abbrev pub word : ℕ → Float
word n = of_bits binary32 n

-- the values of the map, 2 × 2, with vertex values 0, 8, 16
unfoldable pub showing : List ℕ → List Float → Outcome (List Float)
unfolding first_no sizes channels groups exact names_face blend row over divided project centre minus3 dot3 cross3 along3 across down normal distance hit weight weights_at weights_on plane_weights ray_between ray_at column_at row_at pixel_ray face_at vertex_at named tabulate corners_at ray_of answered rays_answer exact_counts pass_code blend_of value_at value_in interpolated interpolate_code interpolating add sub mul div neg eq of_bits of_int
showing map old = interpolating (image 2 2 (matrix zero one)) (vertices (corners quarter) 1 (zero ∷ word 0x4100_0000 ∷ word 0x4180_0000 ∷ [])) (0 ∷ 1 ∷ 2 ∷ []) map old

-- An empty pixel keeps its value bits.
pub empty_is_kept : showing (0 ∷ empty ∷ 0 ∷ empty ∷ []) (zero ∷ nan ∷ zero ∷ one ∷ []) ≡ outcome 0 (word 0x40e0_0000 ∷ nan ∷ word 0x4040_0000 ∷ one ∷ [])
unfolding showing
empty_is_kept = refl
