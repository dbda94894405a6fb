-- Dual numbers keep the laws of the arithmetic that they are made over, and what can be divided by can be so while it moves.
use Prim.Native.Nat.{ℕ, ◌+◌}
use Rattle.std.specs.Prelude.{◌≡◌, [], ◌∷◌}
use Rattle.std.proofs.Math.Path.{refl, ap}
use Rattle.std.proofs.Common.{sym, ◌∙◌}
use Rattle.geometry.specs.Arith.{Arith}
use Rattle.truth.specs.Laws.{Laws, Invertible}
use Rattle.truth.specs.Solve.{Expr, var, :0, :1, ◌:-◌, ◌:*◌, :-◌, exprs, fixed, from, eval, Equal, by_ring, by_premise}
use Rattle.truth.specs.Dual.{Dual, dual, duals}

abbrev var_d : ℕ → Dual Expr
var_d n = dual (var n) (var (n + 1))

module _ {A : Type 0} (R : Arith A) (L : Laws R) where
  open R use {sub as ◌⊖◌, mul as ◌⊗◌, div as ◌⊘◌, one}

  infixl 6 ◌⊖◌
  infixl 7 ◌⊗◌
  infixl 7 ◌⊘◌
  pub both : {a b : Dual A} → a.re ≡ b.re → a.eps ≡ b.eps → a ≡ b
  both p q = λ i. dual (p i) (q i)

  -- both parts by the solver
  by_rings : (ρ : ℕ → A) (a b : Dual Expr) → Equal a.re b.re → Equal a.eps b.eps → dual (eval R ρ a.re) (eval R ρ a.eps) ≡ dual (eval R ρ b.re) (eval R ρ b.eps)
  by_rings ρ a b p q = both (by_ring R L ρ a.re b.re p) (by_ring R L ρ a.eps b.eps q)

  -- a quotient as a product with 1 / b
  pub quotient : (a b : Dual A) → (duals R).div a b ≡ (duals (fixed R (one ⊘ b.re))).div a b
  quotient a b = both (L.div_is _ _) (L.div_is _ _ ∙ ap (λ q. (a.eps ⊖ q ⊗ b.eps) ⊗ (one ⊘ b.re)) (L.div_is _ _))

  pub dual_laws : Laws (duals R)
  unfolding Equal eval
  dual_laws =
      let E = duals (exprs :0) in
      let F = duals (exprs (var 4)) in
      let x = var_d 0 in
      let y = var_d 2 in
      let z = var_d 4 in
      let three : Dual A → Dual A → Dual A → ℕ → A = λ a b c. from R (a.re ∷ a.eps ∷ b.re ∷ b.eps ∷ c.re ∷ c.eps ∷ []) in
      record {
        add_assoc = λ a b c. by_rings (three a b c) (E.add (E.add x y) z) (E.add x (E.add y z)) refl refl;
        add_comm = λ a b. by_rings (three a b b) (E.add x y) (E.add y x) refl refl;
        add-zero = λ a. by_rings (three a a a) (E.add x E.zero) x refl refl;
        add-neg = λ a. by_rings (three a a a) (E.add x (E.neg x)) E.zero refl refl;
        sub_is = λ a b. by_rings (three a b b) (E.sub x y) (E.add x (E.neg y)) refl refl;
        mul_assoc = λ a b c. by_rings (three a b c) (E.mul (E.mul x y) z) (E.mul x (E.mul y z)) refl refl;
        mul_comm = λ a b. by_rings (three a b b) (E.mul x y) (E.mul y x) refl refl;
        mul-one = λ a. by_rings (three a a a) (E.mul x E.one) x refl refl;
        mul-add = λ a b c. by_rings (three a b c) (E.mul x (E.add y z)) (E.add (E.mul x y) (E.mul x z)) refl refl;
        div_is =
            λ a b.
            quotient a b
            ∙ by_rings (from R (a.re ∷ a.eps ∷ b.re ∷ b.eps ∷ (one ⊘ b.re) ∷ [])) (F.div x y) (F.mul x (F.div F.one y)) refl refl
            ∙ ap ((duals R).mul a) (sym (quotient (duals R).one b));
      }

  -- what can be divided by can be so while it moves
  pub dual_invertible : (b : Dual A) → Invertible R b.re → Invertible (duals R) b
  unfolding Equal eval
  dual_invertible b h =
      let i = one ⊘ b.re in
      let F = duals (exprs (var 2)) in
      let y = var_d 0 in
      both h
      (ap (λ x. ((duals R).mul b x).eps) (quotient (duals R).one b)
      ∙ by_premise R L (from R (b.re ∷ b.eps ∷ i ∷ [])) (F.mul y (F.div F.one y)).eps :0 (:- (var 1 :* var 2)) (var 0 :* var 2) :1 h refl)
