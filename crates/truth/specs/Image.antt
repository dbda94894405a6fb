-- Both values passes over a whole image, over any arithmetic: the loss, and what is added to the two lent buffers. At f32 it is what the product's
-- definitions say: module Ties. The map is held fixed, so what a pixel shows and its ray are given.
use Rattle.std.specs.Prelude.{ℕ, ◌+◌, ◌*◌, get_or, set}
use Rattle.std.proofs.Math.Option.{Option, none, some}
use mathlib.Core.List.{List, [], ◌∷◌, ◌++◌, flat_map}
use Rattle.geometry.specs.Arith.{Arith}
use Rattle.geometry.specs.Vector.{Vec3, vec3, Weights, Triangle, triangle}
use Rattle.geometry.specs.Formula.{sum_of}
use Rattle.rays.specs.Space.{Ray}
use Rattle.meshes.specs.Mesh.{Face}
use Rattle.lists.specs.Lists.{span}
use Rattle.truth.specs.Pixel.{loss, gradients_at, to_value}

-- what a pass reads: the face that a pixel shows, its ray, and the numbers of `vtx2xyz`, `vtx2val` and `dldw_pix2val` by place
pub record Scene (A : Type 0) : Type 0 where
  pub shown : ℕ → Option Face
  pub rays : ℕ → Option (Ray A)
  pub channels : ℕ
  pub xyz : ℕ → A
  pub val : ℕ → A
  pub dldw : ℕ → A

-- `amount`, to be added at `place`
pub record Addition (A : Type 0) : Type 0 where
  pub place : ℕ
  pub amount : A

abbrev pub addition : {A : Type 0} → ℕ → A → Addition A
addition i a = record { place = i; amount = a }

module _ {A : Type 0} where
  abbrev pub vertex_at : (ℕ → A) → ℕ → Vec3 A
  vertex_at xyz v = vec3 (xyz (3 * v)) (xyz (3 * v + 1)) (xyz (3 * v + 2))

  abbrev pub corners_at : (ℕ → A) → Face → Triangle (Vec3 A)
  corners_at xyz f = triangle (vertex_at xyz f.v0) (vertex_at xyz f.v1) (vertex_at xyz f.v2)

  -- the corners' values, by channel
  abbrev pub values_at : (ℕ → A) → ℕ → Face → Triangle (ℕ → A)
  values_at val c f = triangle (λ j. val (f.v0 * c + j)) (λ j. val (f.v1 * c + j)) (λ j. val (f.v2 * c + j))

  -- one addition for each corner, at number j of its n
  abbrev pub to_corners : ℕ → Face → ℕ → A → A → A → List (Addition A)
  to_corners n f j x0 x1 x2 = addition (f.v0 * n + j) x0 ∷ addition (f.v1 * n + j) x1 ∷ addition (f.v2 * n + j) x2 ∷ []

  unfoldable pub to_xyz : Face → Triangle (Vec3 A) → List (Addition A)
  to_xyz f g =
      to_corners 3 f 0 g.p0.x g.p1.x g.p2.x
      ++ (to_corners 3 f 1 g.p0.y g.p1.y g.p2.y ++ to_corners 3 f 2 g.p0.z g.p1.z g.p2.z)

module _ {A : Type 0} (R : Arith A) where
  open R use {add as ◌⊕◌}

  infixl 6 ◌⊕◌
  unfoldable pub to_val : ℕ → Face → (ℕ → A) → Weights A → List (Addition A)
  to_val c f d b = flat_map (λ j. to_corners c f j (to_value R d b.b0 j) (to_value R d b.b1 j) (to_value R d b.b2 j)) (span 0 c)

  module _ (s : Scene A) where
    -- the incoming gradients of pixel p
    abbrev pub incoming_at : ℕ → ℕ → A
    incoming_at p j = s.dldw (p * s.channels + j)

    -- an empty pixel's values are none of the vertices': it has no part in the loss
    unfoldable pub pixel_loss : Option Face → Option (Ray A) → (ℕ → A) → A
    pixel_loss (some f) (some r) d = loss R (corners_at s.xyz f) r (values_at s.val s.channels f) d s.channels
    pixel_loss (some f) none d = R.zero
    pixel_loss none r d = R.zero

    -- .. and adds nothing
    unfoldable pub pixel_xyz : Option Face → Option (Ray A) → (ℕ → A) → List (Addition A)
    pixel_xyz (some f) (some r) d = to_xyz f (gradients_at R (corners_at s.xyz f) r (values_at s.val s.channels f) d s.channels).to
    pixel_xyz (some f) none d = []
    pixel_xyz none r d = []

    unfoldable pub pixel_val : Option Face → Option (Ray A) → (ℕ → A) → List (Addition A)
    pixel_val (some f) (some r) d = to_val s.channels f d (gradients_at R (corners_at s.xyz f) r (values_at s.val s.channels f) d s.channels).bc
    pixel_val (some f) none d = []
    pixel_val none r d = []

    abbrev pub loss_at : ℕ → A
    loss_at p = pixel_loss (s.shown p) (s.rays p) (incoming_at p)

    abbrev pub xyz_at : ℕ → List (Addition A)
    xyz_at p = pixel_xyz (s.shown p) (s.rays p) (incoming_at p)

    abbrev pub val_at : ℕ → List (Addition A)
    val_at p = pixel_val (s.shown p) (s.rays p) (incoming_at p)

    -- the loss of n pixels, and what they add
    abbrev pub image_loss : ℕ → A
    image_loss n = sum_of R loss_at n

    abbrev pub image_xyz : ℕ → List (Addition A)
    image_xyz n = flat_map xyz_at (span 0 n)

    abbrev pub image_val : ℕ → List (Addition A)
    image_val n = flat_map val_at (span 0 n)

  -- sums into a buffer, one addition after the other; `past` is what a read past its end gives
  module _ (past : A) where
    unfoldable pub added : List A → Addition A → List A
    added sums a = set sums a.place (get_or sums a.place past ⊕ a.amount)

    unfoldable pub summed : List A → List (Addition A) → List A
    summed sums [] = sums
    summed sums (a ∷ as') = summed (added sums a) as'
