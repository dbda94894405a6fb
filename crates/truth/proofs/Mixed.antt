-- What smoothing makes of two values, while the crossing moves.
use Rattle.std.specs.Prelude.{◌≡◌, Bool, true, false, [], ◌∷◌}
use Rattle.std.proofs.Math.Path.{refl}
use Rattle.geometry.specs.Arith.{Arith}
use Rattle.outlines.specs.Formula.{mixed}
use Rattle.truth.specs.Laws.{Laws}
use Rattle.truth.specs.Solve.{Expr, var, :0, ◌:-◌, ◌:*◌, :-◌, exprs, from, eval, Equal, by_ring}
use Rattle.truth.specs.Dual.{Dual, dual, duals, still}
use Rattle.truth.specs.Crossing.{part}

-- ---- the formulas as trees: half, the two values and rc are variables 0 to 4

abbrev G : Arith Expr
G = exprs :0

abbrev F : Arith (Dual Expr)
F = duals G

abbrev mix : Bool → Expr
mix below = (mixed F (part F below (still G (var 0)) (dual (var 3) (var 4))) (still G (var 1)) (still G (var 2))).eps

module _ {A : Type 0} (R : Arith A) (L : Laws R) where
  open R use {sub as ◌⊖◌, mul as ◌⊗◌}

  infixl 6 ◌⊖◌
  infixl 7 ◌⊗◌
  -- What is mixed of two values that are held moves as rc times their difference, where rc is below half and where it is not.
  pub mixed_true : (below : Bool) (half a b : A) (rc : Dual A)
      → (mixed (duals R) (part (duals R) below (still R half) rc) (still R a) (still R b)).eps ≡ rc.eps ⊗ (a ⊖ b)
  unfolding Equal eval mixed part
  mixed_true true half a b rc =
      by_ring R L (from R (half ∷ a ∷ b ∷ rc.re ∷ rc.eps ∷ [])) (mix true) (var 4 :* (var 1 :- var 2)) refl
  mixed_true false half a b rc =
      by_ring R L (from R (half ∷ a ∷ b ∷ rc.re ∷ rc.eps ∷ [])) (mix false) (var 4 :* (var 1 :- var 2)) refl
