-- What is asked of an arithmetic for its gradients to be true: a commutative ring. Of division only that it is a product with 1 / b.
use Rattle.std.specs.Prelude.{◌≡◌}
use Rattle.geometry.specs.Arith.{Arith}

module _ {A : Type 0} (R : Arith A) where
  open R use {add as ◌⊕◌, sub as ◌⊖◌, mul as ◌⊗◌, div as ◌⊘◌, neg, zero, one}

  infixl 6 ◌⊕◌
  infixl 6 ◌⊖◌
  infixl 7 ◌⊗◌
  infixl 7 ◌⊘◌
  pub record Laws : Type 0 where
    pub add_assoc : (a b c : A) → a ⊕ b ⊕ c ≡ a ⊕ (b ⊕ c)
    pub add_comm : (a b : A) → a ⊕ b ≡ b ⊕ a
    pub add-zero : (a : A) → a ⊕ zero ≡ a
    pub add-neg : (a : A) → a ⊕ neg a ≡ zero
    pub sub_is : (a b : A) → a ⊖ b ≡ a ⊕ neg b
    pub mul_assoc : (a b c : A) → a ⊗ b ⊗ c ≡ a ⊗ (b ⊗ c)
    pub mul_comm : (a b : A) → a ⊗ b ≡ b ⊗ a
    pub mul-one : (a : A) → a ⊗ one ≡ a
    pub mul-add : (a b c : A) → a ⊗ (b ⊕ c) ≡ a ⊗ b ⊕ a ⊗ c
    pub div_is : (a b : A) → a ⊘ b ≡ a ⊗ (one ⊘ b)

  -- b can be divided by
  abbrev pub Invertible : A → Type 0
  Invertible b = b ⊗ (one ⊘ b) ≡ one
