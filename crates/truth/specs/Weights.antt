-- The corner weights that drawing stores, over any arithmetic.
use Rattle.geometry.specs.Arith.{Arith}
use Rattle.geometry.specs.Vector.{Vec2, Weights}
use Rattle.geometry.specs.Formula.{areas, total, over_total}

module _ {A : Type 0} (R : Arith A) where
  open R use {add as ◌⊕◌, mul as ◌⊗◌}

  infixl 6 ◌⊕◌
  infixl 7 ◌⊗◌
  -- s = a0+a1+a2 of the point q in the piece p0, p1, p2 ..
  abbrev pub area_sum : Vec2 A → Vec2 A → Vec2 A → Vec2 A → A
  area_sum q p0 p1 p2 = total R (areas R q p0 p1 p2)

  -- .. and the weights a/s
  abbrev pub weights_in : Vec2 A → Vec2 A → Vec2 A → Vec2 A → Weights A
  weights_in q p0 p1 p2 = over_total R (areas R q p0 p1 p2) (area_sum q p0 p1 p2)

  -- the height over p of the plane z = a x + c y + d
  abbrev pub height : A → A → A → Vec2 A → A
  height a c d p = a ⊗ p.x ⊕ c ⊗ p.y ⊕ d
