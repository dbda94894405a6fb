-- The scene of 01's examples: the identity matrix, the faces T(z), and a 2 × 2 drawing that computes.
use Rattle.std.specs.Prelude.{ℕ, List, [], ◌∷◌, ◌++◌, Float}
use Rattle.std.specs.Float.{binary32}
use Rattle.std.specs.Float.Ieee.{of_bits, of_int, add, sub, mul, div, neg, lt, le, eq}
use Rattle.lists.specs.Lists.{tabulate}
use Rattle.questions.specs.Questions.{Outcome, empty, first_no, sizes, groups, numbers, exact}
use Rattle.offers.specs.Offer.{lowest, renamed, offered, pick, exceeds}
use Rattle.offers.specs.Offers as any
use Rattle.cells.specs.Cell.{numbered}
use Rattle.cells.specs.Layer.{Layer, layer, weights_at, weight_of, all_weights}
use Rattle.geometry.specs.Formula.{cross2, areas, total, over_total, blend, row, over}
use Rattle.geometry.specs.Leaf.{weighed, weighed_all, with_sum, weighed_with_sum, corner_weights, divided, project}
use Rattle.meshes.specs.Mesh.{faces_of, vertex_at}
use Rattle.pixels.specs.Pixel.{centre, centre_of}
use Rattle.rules.specs.Piece.{scored, whole, behind, any_behind, corners_pieces, projected_pieces, pieces}
use Rattle.rules.specs.Scan.{on_screen, screened, lower, upper, least, greatest, spans, between, in_closed_box, finite_in_pixels, scans, dropped, kept, counts, weighed_depth, depth_at, candidate}
use Rattle.rules.specs.Offers.{face_pieces, piece_brings, pieces_bring, brings, brought}
use Rattle.rules.specs.Draw.{painted, drawn}
use Rattle.rules.specs.Calls.{draw_code, facing_of, draws}

-- 0, 1, −1, 3; an eighth and three of them; 0.25, 0.5 and 0.75
abbrev pub zero : Float
zero = of_bits binary32 0

abbrev pub one : Float
one = of_bits binary32 0x3f80_0000

abbrev pub minus_one : Float
minus_one = of_bits binary32 0xbf80_0000

abbrev pub three : Float
three = of_bits binary32 0x4040_0000

abbrev pub eighth : Float
eighth = of_bits binary32 0x3e00_0000

abbrev pub three_eighths : Float
three_eighths = of_bits binary32 0x3ec0_0000

abbrev pub quarter : Float
quarter = of_bits binary32 0x3e80_0000

abbrev pub half : Float
half = of_bits binary32 0x3f00_0000

abbrev pub three_quarters : Float
three_quarters = of_bits binary32 0x3f40_0000

-- column-major, with m[11] and m[15] as given; the identity has 0 and 1 there
abbrev pub matrix : Float → Float → List Float
matrix m11 m15 = one ∷ zero ∷ zero ∷ zero ∷ zero ∷ one ∷ zero ∷ zero ∷ zero ∷ zero ∷ one ∷ m11 ∷ zero ∷ zero ∷ zero ∷ m15 ∷ []

-- T(z): (−1,−1,z), (3,−1,z), (−1,3,z)
abbrev pub corners : Float → List Float
corners z = minus_one ∷ minus_one ∷ z ∷ three ∷ minus_one ∷ z ∷ minus_one ∷ three ∷ z ∷ []

-- the same at each of the four pixels
abbrev pub four : {A : Type 0} → A → List A
four x = x ∷ x ∷ x ∷ x ∷ []

-- three of it at each
abbrev pub twelve : {A : Type 0} → A → List A
twelve x = four x ++ four x ++ four x

abbrev pub blank : Layer
blank = layer (four empty) (four lowest) (twelve zero)

-- T(z) in pixels is (0, 2), (4, 2), (0, −2), and its weights at (x, y) are 1 − x/4 − (2 − y)/4, x/4 and (2 − y)/4: here at the four centres, where `each` lists
-- the three of one
abbrev centres : (Float → Float → Float → List Float) → List Float
centres each = each half eighth three_eighths ++ each quarter three_eighths three_eighths ++ each three_quarters eighth eighth ++ each half three_eighths eighth

-- in the order of T's corners, and with the last two corners exchanged
abbrev pub in_t : List Float
in_t = centres (λ a b c. a ∷ b ∷ c ∷ [])

abbrev pub in_exchanged_t : List Float
in_exchanged_t = centres (λ a b c. a ∷ c ∷ b ∷ [])

-- the faces `tri` drawn from number 0, with that facing
unfoldable pub faced : ℕ → Layer → List ℕ → List Float → Float → Float → Outcome Layer
unfolding first_no sizes groups numbers exact renamed offered pick exceeds tabulate numbered weights_at weight_of all_weights any.brought faces_of vertex_at cross2 areas total over_total blend row over weighed weighed_all with_sum weighed_with_sum corner_weights divided project scored whole behind any_behind corners_pieces projected_pieces pieces on_screen screened centre centre_of lower upper least greatest spans between in_closed_box finite_in_pixels scans dropped kept counts weighed_depth depth_at candidate face_pieces piece_brings pieces_bring brings brought painted drawn draw_code facing_of draws add sub mul div neg lt le eq of_bits of_int
faced facing l tri xyz m11 m15 = draws l tri xyz 2 2 (matrix m11 m15) 0 facing

-- all of them
abbrev pub drawing : Layer → List ℕ → List Float → Float → Float → Outcome Layer
drawing = faced 0
