-- The marked examples of 01: `Marked` has a field for each marked line, in 01's order, and `marked` is its value. Each is proved by computing the definitions
-- that the contracts cite. A layer is given with its weights (02, Point 9): `in_t` has those of T(z) at the four pixels (sequences Example).
pub mod Values
pub mod Edges
pub mod Outlines
pub mod Floats
pub mod Load
pub mod Visits
pub mod Facing
pub mod Removal
use Rattle.std.specs.Prelude.{◌≡◌, refl, [], ◌∷◌, drop}
use Rattle.std.specs.Float.{nan, binary32}
use Rattle.std.specs.Float.Ieee.{of_bits}
use Rattle.questions.specs.Questions.{empty, outcome}
use Rattle.offers.specs.Offer.{lowest}
use Rattle.cells.specs.Layer.{layer}
use Rattle.roots.specs.Root.{root}
use Rattle.sequences.specs.Example.{zero, one, minus_one, three, quarter, corners, four, twelve, blank, in_t, drawing, faced}
use Rattle.theorems.specs.Examples.Values.{word, showing}
use Rattle.theorems.specs.Examples.Edges.{typed_of, typed, typed_as}

pub record Marked : Type 0 where
  -- T(0.25): four pixels, number 0, depth 0.25.
  pub one_face : drawing blank (0 ∷ 1 ∷ 2 ∷ []) (corners quarter) zero one ≡ outcome 0 (layer (four 0) (four quarter) in_t)
  -- T(0.25) twice: number 0.
  pub twice : drawing blank (0 ∷ 1 ∷ 2 ∷ 0 ∷ 1 ∷ 2 ∷ []) (corners quarter) zero one ≡ outcome 0 (layer (four 0) (four quarter) in_t)
  -- No faces: still clear.
  pub no_faces : drawing blank [] (corners quarter) zero one ≡ outcome 0 blank
  -- Depth NaN at pixel 0: kept, with its number; and with its weights, which are nobody else's.
  pub nan_kept : drawing (layer (7 ∷ empty ∷ empty ∷ empty ∷ []) (nan ∷ lowest ∷ lowest ∷ lowest ∷ []) (minus_one ∷ three ∷ one ∷ drop 3 (twelve zero))) (0 ∷ 1 ∷ 2 ∷ []) (corners quarter) zero one
      ≡ outcome 0 (layer (7 ∷ 0 ∷ 0 ∷ 0 ∷ []) (nan ∷ quarter ∷ quarter ∷ quarter ∷ []) (minus_one ∷ three ∷ one ∷ drop 3 in_t))
  -- m[11] = −1, m[15] = 0, a vertex with z = 1: nothing drawn.
  pub behind_the_camera : drawing blank (0 ∷ 1 ∷ 2 ∷ []) (corners one) minus_one zero ≡ outcome 0 blank
  -- T(0.25), vertex values 0, 8, 16: pixel 0 is 7; the others are 9, 3 and 5.
  pub pixel_0_is_7 : showing (four 0) (four zero) ≡ outcome 0 (word 0x40e0_0000 ∷ word 0x4110_0000 ∷ word 0x4040_0000 ∷ word 0x40a0_0000 ∷ [])
  -- T(0.25), 2 × 1, one channel, map 0 and empty, values 1, 0, incoming 1, 1: type 1, dldr 1. Both empty: type 0, dldr 1.
  pub edge_types : (typed (0 ∷ empty ∷ []) ≡ typed_as 1) × (typed (empty ∷ empty ∷ []) ≡ typed_as 0)
  -- Root of 2 is hexadecimal 3fb504f3; of the smallest subnormal, 1a3504f3.
  pub roots : (root binary32 (word 0x4000_0000) ≡ word 0x3fb5_04f3) × (root binary32 (word 1) ≡ word 0x1a35_04f3)
  -- Three vertices, a face naming 3: refusal 6. Naming 2: accepted.
  pub names : (drawing blank (0 ∷ 1 ∷ 3 ∷ []) (corners quarter) zero one ≡ outcome 6 blank)
      × ((drawing blank (0 ∷ 1 ∷ 2 ∷ []) (corners quarter) zero one).code ≡ 0)

pub marked : Marked
unfolding faced showing typed_of root of_bits
marked =
    record {
      one_face = refl;
      twice = refl;
      no_faces = refl;
      nan_kept = refl;
      behind_the_camera = refl;
      pixel_0_is_7 = refl;
      edge_types = (refl, refl);
      roots = (refl, refl);
      names = (refl, refl);
    }
