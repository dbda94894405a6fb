-- What `interpolate` and `interpolate_bwd` do with one pixel that is not empty, over any arithmetic. At f32 it is what their definitions say: module Ties.
use Rattle.std.specs.Prelude.{ℕ}
use Rattle.geometry.specs.Arith.{Arith}
use Rattle.geometry.specs.Vector.{Vec3, Weights, weights, Triangle}
use Rattle.geometry.specs.Formula.{blend}
use Rattle.rays.specs.Space.{Ray}
use Rattle.rays.specs.Plane.{plane_weights}
use Rattle.rays_bwd.specs.Backward.{Gradients, plane_backward}
use Rattle.pixel_gradients.specs.Gather.{gathered}

module _ {A : Type 0} (R : Arith A) where
  open R use {add as ◌⊕◌, sub as ◌⊖◌, mul as ◌⊗◌, zero}

  infixl 6 ◌⊕◌
  infixl 6 ◌⊖◌
  infixl 7 ◌⊗◌
  -- forward: channel j of the pixel, of the corners, the ray, and the corners' values by channel
  unfoldable pub value_at : Triangle (Vec3 A) → Ray A → Triangle (ℕ → A) → ℕ → A
  value_at p r x j = blend R (plane_weights R p r) (x.p0 j) (x.p1 j) (x.p2 j)

  -- the pixel's part of the loss: value times incoming gradient, over c channels
  unfoldable pub loss : Triangle (Vec3 A) → Ray A → Triangle (ℕ → A) → (ℕ → A) → ℕ → A
  loss p r x d c = gathered R (value_at p r x) d c

  -- backward: the gradients of the weights ..
  unfoldable pub incoming : Triangle (ℕ → A) → (ℕ → A) → ℕ → Weights A
  incoming x d c = weights (gathered R x.p0 d c) (gathered R x.p1 d c) (gathered R x.p2 d c)

  -- .. of u and of v, what corner 1 and corner 2 have beyond corner 0 ..
  abbrev pub of_u : Weights A → A
  of_u b = b.b1 ⊖ b.b0

  abbrev pub of_v : Weights A → A
  of_v b = b.b2 ⊖ b.b0

  unfoldable pub backward : Triangle (Vec3 A) → Ray A → Weights A → Gradients A
  backward p r b = plane_backward R p r zero (of_u b) (of_v b)

  -- .. to the corners (`.to`), with the weights (`.bc`) ..
  unfoldable pub gradients_at : Triangle (Vec3 A) → Ray A → Triangle (ℕ → A) → (ℕ → A) → ℕ → Gradients A
  gradients_at p r x d c = backward p r (incoming x d c)

  -- .. and to the values of a corner, by its weight b: channel j
  unfoldable pub to_value : (ℕ → A) → A → ℕ → A
  to_value d b j = d j ⊗ b

  -- what those gradients of the values say of the values' movement y
  unfoldable pub inner_values : (ℕ → A) → Weights A → Triangle (ℕ → A) → ℕ → A
  inner_values d b y c = gathered R (to_value d b.b0) y.p0 c ⊕ gathered R (to_value d b.b1) y.p1 c ⊕ gathered R (to_value d b.b2) y.p2 c
