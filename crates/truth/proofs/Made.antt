-- The forward weights of a point that is made from weights are these.
use Rattle.std.specs.Prelude.{ℕ, ◌≡◌, [], ◌∷◌}
use Rattle.std.proofs.Math.Path.{refl}
use Rattle.geometry.specs.Arith.{Arith}
use Rattle.geometry.specs.Vector.{Vec3, Triangle, triangle}
use Rattle.geometry.specs.Formula.{blend, point_from}
use Rattle.rays.specs.Space.{minus3, dot3, cross3}
use Rattle.rays.specs.Plane.{normal, weight}
use Rattle.rays_bwd.specs.Backward.{weighted}
use Rattle.truth.specs.Laws.{Laws, Invertible}
use Rattle.truth.specs.Ring.{cancelled}
use Rattle.truth.specs.Solve.{Expr, var, :0, :1, ◌:-◌, ◌:*◌, ◌∷₃◌, var3, exprs, from, eval, Equal, by_ring}
use Rattle.truth.specs.Meeting.{n_dot_n}

-- ---- the formulas as trees: the corners are variables 0 to 8, and two weights 9 and 10

abbrev E : Arith Expr
E = exprs :0

abbrev corners : Triangle (Vec3 Expr)
corners = triangle (var3 0) (var3 3) (var3 6)

abbrev made : Vec3 Expr
made = point_from E (weighted E (var 9) (var 10)) (var3 0) (var3 3) (var3 6)

-- ((a − q)×(b − q))·n
abbrev spanned : Vec3 Expr → Vec3 Expr → Expr
spanned a b = dot3 E (cross3 E (minus3 E a made) (minus3 E b made)) (normal E corners)

abbrev squared : Expr
squared = dot3 E (normal E corners) (normal E corners)

module _ {A : Type 0} (R : Arith A) (L : Laws R) (p : Triangle (Vec3 A)) (b1 b2 : A) (h : Invertible R (n_dot_n R p)) where
  open R use {sub as ◌⊖◌, one}

  infixl 6 ◌⊖◌
  abbrev q : Vec3 A
  q = point_from R (weighted R b1 b2) p.p0 p.p1 p.p2

  abbrev ρ : ℕ → A
  ρ = from R (p.p0 ∷₃ p.p1 ∷₃ p.p2 ∷₃ b1 ∷ b2 ∷ [])

  pub weight0 : weight R (normal R p) q p.p1 p.p2 ≡ one ⊖ b1 ⊖ b2
  unfolding Equal eval weight normal weighted point_from blend minus3 dot3 cross3
  weight0 = cancelled R L h (by_ring R L ρ (spanned (var3 3) (var3 6)) ((:1 :- var 9 :- var 10) :* squared) refl)

  pub weight1 : weight R (normal R p) q p.p2 p.p0 ≡ b1
  unfolding Equal eval weight normal weighted point_from blend minus3 dot3 cross3
  weight1 = cancelled R L h (by_ring R L ρ (spanned (var3 6) (var3 0)) (var 9 :* squared) refl)

  pub weight2 : weight R (normal R p) q p.p0 p.p1 ≡ b2
  unfolding Equal eval weight normal weighted point_from blend minus3 dot3 cross3
  weight2 = cancelled R L h (by_ring R L ρ (spanned (var3 0) (var3 3)) (var 10 :* squared) refl)
