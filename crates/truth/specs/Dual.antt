-- Dual numbers: a + a'ε with ε² = 0. A formula at dual numbers gives its value and, at ε, its derivative along the movement of its arguments. No limits.
use Rattle.geometry.specs.Arith.{Arith}

pub record Dual (A : Type 0) : Type 0 where
  pub re : A
  pub eps : A

abbrev pub dual : {A : Type 0} → A → A → Dual A
dual a b = record { re = a; eps = b }

module _ {A : Type 0} (R : Arith A) where
  open R use {add as ◌⊕◌, sub as ◌⊖◌, mul as ◌⊗◌, div as ◌⊘◌, neg, zero, one}

  infixl 6 ◌⊕◌
  infixl 6 ◌⊖◌
  infixl 7 ◌⊗◌
  infixl 7 ◌⊘◌
  abbrev pub duals : Arith (Dual A)
  duals =
      record {
        add = λ a b. dual (a.re ⊕ b.re) (a.eps ⊕ b.eps);
        sub = λ a b. dual (a.re ⊖ b.re) (a.eps ⊖ b.eps);
        mul = λ a b. dual (a.re ⊗ b.re) (a.re ⊗ b.eps ⊕ a.eps ⊗ b.re);
        div = λ a b. dual (a.re ⊘ b.re) ((a.eps ⊖ a.re ⊘ b.re ⊗ b.eps) ⊘ b.re);
        neg = λ a. dual (neg a.re) (neg a.eps);
        zero = dual zero zero;
        one = dual one zero;
      }

  -- a number that does not move
  abbrev pub still : A → Dual A
  still a = dual a zero
