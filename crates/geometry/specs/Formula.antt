-- The formulas of 01's leaves, over any arithmetic. Sums run left to right.
use Rattle.std.specs.Prelude.{ℕ, zero, suc, ◌+◌}
use Rattle.geometry.specs.Arith.{Arith}
use Rattle.geometry.specs.Vector.{Vec2, Vec3, vec3, Weights, weights, Projected, projected}

module _ {A : Type 0} (R : Arith A) where
  open R use {add as ◌⊕◌, sub as ◌⊖◌, mul as ◌⊗◌, div as ◌⊘◌}

  infixl 6 ◌⊕◌
  infixl 6 ◌⊖◌
  infixl 7 ◌⊗◌
  infixl 7 ◌⊘◌
  -- a sum of n terms, in order, from +0
  unfoldable pub sum_of : (ℕ → A) → ℕ → A
  sum_of term zero = R.zero
  sum_of term (suc n) = sum_of term n ⊕ term n

  -- cross2(a,b,c) = (bx−ax)(cy−ay) − (by−ay)(cx−ax)
  unfoldable pub cross2 : Vec2 A → Vec2 A → Vec2 A → A
  cross2 a b c = (b.x ⊖ a.x) ⊗ (c.y ⊖ a.y) ⊖ (b.y ⊖ a.y) ⊗ (c.x ⊖ a.x)

  -- Corner weights: a0 = cross2(q,p1,p2), a1 = cross2(q,p2,p0), a2 = cross2(q,p0,p1) ..
  unfoldable pub areas : Vec2 A → Vec2 A → Vec2 A → Vec2 A → Weights A
  areas q p0 p1 p2 = weights (cross2 q p1 p2) (cross2 q p2 p0) (cross2 q p0 p1)

  -- .. s = a0+a1+a2 ..
  unfoldable pub total : Weights A → A
  total a = a.b0 ⊕ a.b1 ⊕ a.b2

  -- .. and the weights a/s
  unfoldable pub over_total : Weights A → A → Weights A
  over_total a s = weights (a.b0 ⊘ s) (a.b1 ⊘ s) (a.b2 ⊘ s)

  -- one coordinate of a point from weights b: b0p0+b1p1+b2p2
  unfoldable pub blend : Weights A → A → A → A → A
  blend b p0 p1 p2 = b.b0 ⊗ p0 ⊕ b.b1 ⊗ p1 ⊕ b.b2 ⊗ p2

  -- a point from weights b
  unfoldable pub point_from : Weights A → Vec3 A → Vec3 A → Vec3 A → Vec3 A
  point_from b p0 p1 p2 = vec3 (blend b p0.x p1.x p2.x) (blend b p0.y p1.y p2.y) (blend b p0.z p1.z p2.z)

  -- Projection: y_r = m[r]x0 + m[4+r]x1 + m[8+r]x2 + m[12+r] ..
  unfoldable pub row : (ℕ → A) → ℕ → Vec3 A → A
  row m r x = m r ⊗ x.x ⊕ m (4 + r) ⊗ x.y ⊕ m (8 + r) ⊗ x.z ⊕ m (12 + r)

  -- .. y0, y1, y2 over y3, and the divisor y3
  unfoldable pub over : A → A → A → A → Projected A
  over y0 y1 y2 y3 = projected (vec3 (y0 ⊘ y3) (y1 ⊘ y3) (y2 ⊘ y3)) y3
