-- The crossing, and its backward formula, with 1 / d times for every division.
use Rattle.std.specs.Prelude.{ℕ, ◌≡◌, [], ◌∷◌}
use Rattle.std.proofs.Math.Path.{refl}
use mathlib.Core.List.{List}
use Rattle.geometry.specs.Arith.{Arith}
use Rattle.geometry.specs.Vector.{Vec2, vec2}
use Rattle.outlines.specs.Formula.{Ends, ends, Crossing, minus2, perp_dot, scaled2, crossing_from, crossing_of, crossing_gradient, end_shares, crossing_backward}
use Rattle.truth.specs.Laws.{Laws, Invertible}
use Rattle.truth.specs.Solve.{Expr, var, :1, ◌:-◌, ◌:*◌, :-◌, ◌∷₂◌, var2, exprs, fixed, from, eval, Equal, by_premise}
use Rattle.truth.specs.Crossing.{along2, dot2, inner_ends, crossing_moves}

-- ---- the formulas as trees: the centres are variables 0 to 3, the ends 4 to 7, 8 is 1 / d, the ends' movement 9 to 12, and dldr 13

abbrev E : Arith Expr
E = exprs (var 8)

abbrev edge : Ends Expr
edge = ends (var2 4) (var2 6)

abbrev moved : Ends Expr
moved = ends (var2 9) (var2 11)

abbrev at : Crossing Expr
at = crossing_of E (var2 0) (var2 2) edge

module _ {A : Type 0} (R : Arith A) (c0 c1 : Vec2 A) (e : Ends A) where
  open R use {div as ◌⊘◌, one}

  infixl 7 ◌⊘◌
  -- 1 / d times for every division
  abbrev pub over_d : Arith A
  over_d = fixed R (one ⊘ (crossing_of R c0 c1 e).d)

module _ {A : Type 0} (R : Arith A) (L : Laws R) (c0 c1 : Vec2 A) (e : Ends A) (h : Invertible R (crossing_of R c0 c1 e).d) where
  open R use {mul as ◌⊗◌, div as ◌⊘◌, one}

  infixl 7 ◌⊗◌
  infixl 7 ◌⊘◌
  abbrev S : Arith A
  S = over_d R c0 c1 e

  abbrev ρ : List A → ℕ → A
  ρ more = from R (c0 ∷₂ c1 ∷₂ e.q0 ∷₂ e.q1 ∷₂ (one ⊘ (crossing_of R c0 c1 e).d) ∷ more)

  pub meets_fixed : along2 R c0 (crossing_of S c0 c1 e).rc (minus2 R c1 c0) ≡ along2 R e.q1 (crossing_of S c0 c1 e).re (minus2 R e.q0 e.q1)
  unfolding Equal eval along2 crossing_of crossing_from minus2 perp_dot
  meets_fixed =
      let a = along2 E (var2 0) at.rc (minus2 E (var2 2) (var2 0)) in
      let b = along2 E (var2 6) at.re (minus2 E (var2 4) (var2 6)) in
      λ j.
      vec2 (by_premise R L (ρ []) a.x b.x (var 6 :- var 0) (at.d :* var 8) :1 h refl j)
      (by_premise R L (ρ []) a.y b.y (var 7 :- var 1) (at.d :* var 8) :1 h refl j)

  pub true_fixed : (m : Ends A) (dldr : A) → dldr ⊗ (crossing_moves S c0 c1 e m).rc.eps ≡ inner_ends R (crossing_backward S e (crossing_of S c0 c1 e) dldr) m
  unfolding Equal eval crossing_of crossing_from crossing_backward crossing_gradient end_shares scaled2 minus2 perp_dot inner_ends dot2
  true_fixed m dldr =
      by_premise R L (ρ (m.q0 ∷₂ m.q1 ∷₂ dldr ∷ [])) (var 13 :* (crossing_moves E (var2 0) (var2 2) edge moved).rc.eps)
      (inner_ends E (crossing_backward E edge at (var 13)) moved)
      (:- (var 13 :* var 8 :* perp_dot E (minus2 E (var2 6) (var2 0)) (minus2 E (var2 9) (var2 11)))) (at.d :* var 8) :1 h refl
