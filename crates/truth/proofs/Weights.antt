-- The corner weights that drawing stores, in exact arithmetic: they sum to 1, place the pixel in the piece, and give the depth of the piece's plane.
use Rattle.std.specs.Prelude.{ℕ, ◌≡◌}
use Rattle.std.proofs.Math.Path.{refl, ap}
use Rattle.std.proofs.Common.{◌∙◌}
use mathlib.Core.List.{List, [], ◌∷◌}
use Rattle.geometry.specs.Arith.{Arith}
use Rattle.geometry.specs.Vector.{Vec2, vec2, Weights, weights}
use Rattle.geometry.specs.Formula.{cross2, areas, total, over_total, blend}
use Rattle.truth.specs.Laws.{Laws, Invertible}
use Rattle.truth.specs.Solve.{Expr, var, :1, ◌:+◌, ◌:-◌, ◌:*◌, exprs, fixed, from, eval, Equal, by_premise}
use Rattle.truth.specs.Weights.{area_sum, weights_in, height}

-- ---- the formulas as trees: q is variables 0 and 1, the corners 2 to 7, 8 is 1 / s, and a, c and d are 9 to 11

abbrev E : Arith Expr
E = exprs (var 8)

abbrev Q : Vec2 Expr
Q = vec2 (var 0) (var 1)

abbrev P0 : Vec2 Expr
P0 = vec2 (var 2) (var 3)

abbrev P1 : Vec2 Expr
P1 = vec2 (var 4) (var 5)

abbrev P2 : Vec2 Expr
P2 = vec2 (var 6) (var 7)

abbrev S : Expr
S = area_sum E Q P0 P1 P2

abbrev B : Weights Expr
B = weights_in E Q P0 P1 P2

-- a product with 1 / s for each quotient
over_total_is : {A : Type 0} (R : Arith A) → Laws R → (a : Weights A) (s : A) → over_total R a s ≡ over_total (fixed R (R.div R.one s)) a s
unfolding over_total
over_total_is R L a s = λ j. weights (L.div_is a.b0 s j) (L.div_is a.b1 s j) (L.div_is a.b2 s j)

module _ {A : Type 0} (R : Arith A) (L : Laws R) (q p0 p1 p2 : Vec2 A) (h : Invertible R (area_sum R q p0 p1 p2)) where
  open R use {add as ◌⊕◌, div as ◌⊘◌, one}

  infixl 6 ◌⊕◌
  infixl 7 ◌⊘◌
  abbrev b : Weights A
  b = weights_in R q p0 p1 p2

  -- with 1 / s times for every division
  abbrev b' : Weights A
  b' = weights_in (fixed R (one ⊘ area_sum R q p0 p1 p2)) q p0 p1 p2

  b_is : b ≡ b'
  unfolding total areas cross2
  b_is = over_total_is R L _ _

  abbrev ρ : List A → ℕ → A
  ρ more = from R (q.x ∷ q.y ∷ p0.x ∷ p0.y ∷ p1.x ∷ p1.y ∷ p2.x ∷ p2.y ∷ (one ⊘ area_sum R q p0 p1 p2) ∷ more)

  -- x is y times s (1 / s)
  by_s : (more : List A) (x y : Expr) → Equal (x :- y) (y :* (S :* var 8 :- :1)) → eval R (ρ more) x ≡ eval R (ρ more) y
  unfolding eval total areas cross2
  by_s more x y e = by_premise R L (ρ more) x y y (S :* var 8) :1 h e

  -- Where s can be divided by, the weights sum to 1 ..
  pub weights-sum : b.b0 ⊕ b.b1 ⊕ b.b2 ≡ one
  unfolding Equal eval over_total total areas cross2
  weights-sum = ap (λ (w : Weights A). w.b0 ⊕ w.b1 ⊕ w.b2) b_is ∙ by_s [] (B.b0 :+ B.b1 :+ B.b2) :1 refl

  -- .. they place q in the piece: the corners, weighed so, make q ..
  pub weights_place : vec2 (blend R b p0.x p1.x p2.x) (blend R b p0.y p1.y p2.y) ≡ q
  unfolding Equal eval over_total total areas cross2 blend
  weights_place =
      ap (λ w. vec2 (blend R w p0.x p1.x p2.x) (blend R w p0.y p1.y p2.y)) b_is
      ∙ λ j. vec2 (by_s [] (blend E B (var 2) (var 4) (var 6)) (var 0) refl j) (by_s [] (blend E B (var 3) (var 5) (var 7)) (var 1) refl j)

  -- .. and they give the depth: of whatever plane the corners lie in with their depths, the depth that is drawn is the plane's height at q.
  pub weights_depth_lem : (a c d z0 z1 z2 : A)
      → z0 ≡ height R a c d p0
      → z1 ≡ height R a c d p1
      → z2 ≡ height R a c d p2
      → blend R b z0 z1 z2 ≡ height R a c d q
  unfolding Equal eval over_total total areas cross2 blend
  weights_depth_lem a c d z0 z1 z2 e0 e1 e2 =
      (λ j. blend R (b_is j) (e0 j) (e1 j) (e2 j))
      ∙ (let f = height E (var 9) (var 10) (var 11) in by_s (a ∷ c ∷ d ∷ []) (blend E B (f P0) (f P1) (f P2)) (f Q) refl)
