-- Laws of a commutative ring that follow from those of `Laws`.
use Rattle.std.specs.Prelude.{◌≡◌}
use Rattle.std.proofs.Common.{sym, ◌∙◌, ap, ap₂}
use Rattle.geometry.specs.Arith.{Arith}
use Rattle.truth.specs.Laws.{Laws}

module _ {A : Type 0} (R : Arith A) (L : Laws R) where
  open R use {add as ◌⊕◌, sub as ◌⊖◌, mul as ◌⊗◌, div as ◌⊘◌, neg, zero, one}
  open L use {add_assoc, add_comm, add-zero, add-neg, sub_is, mul_assoc, mul_comm, mul-one, mul-add, div_is}

  infixl 6 ◌⊕◌
  infixl 6 ◌⊖◌
  infixl 7 ◌⊗◌
  infixl 7 ◌⊘◌
  pub zero-add : (a : A) → zero ⊕ a ≡ a
  zero-add a = add_comm zero a ∙ add-zero a

  pub neg_add_self : (a : A) → neg a ⊕ a ≡ zero
  neg_add_self a = add_comm (neg a) a ∙ add-neg a

  pub add_left_comm : (a b c : A) → a ⊕ (b ⊕ c) ≡ b ⊕ (a ⊕ c)
  add_left_comm a b c = sym (add_assoc a b c) ∙ ap (λ x. x ⊕ c) (add_comm a b) ∙ add_assoc b a c

  pub add-add : (a b c d : A) → a ⊕ b ⊕ (c ⊕ d) ≡ a ⊕ c ⊕ (b ⊕ d)
  add-add a b c d = add_assoc a b (c ⊕ d) ∙ ap (λ x. a ⊕ x) (add_left_comm b c d) ∙ sym (add_assoc a c (b ⊕ d))

  -- what adds up to nothing with a is its opposite
  opposite : (a b : A) → a ⊕ b ≡ zero → b ≡ neg a
  opposite a b e =
      sym (zero-add b) ∙ ap (λ x. x ⊕ b) (sym (neg_add_self a)) ∙ add_assoc (neg a) a b ∙ ap (λ x. neg a ⊕ x) e ∙ add-zero (neg a)

  pub neg-neg : (a : A) → neg (neg a) ≡ a
  neg-neg a = sym (opposite (neg a) a (neg_add_self a))

  pub neg-zero : neg zero ≡ zero
  neg-zero = sym (opposite zero zero (add-zero zero))

  pub neg-add : (a b : A) → neg (a ⊕ b) ≡ neg a ⊕ neg b
  neg-add a b = sym (opposite (a ⊕ b) (neg a ⊕ neg b) (add-add a b (neg a) (neg b) ∙ ap₂ ◌⊕◌ (add-neg a) (add-neg b) ∙ add-zero zero))

  doubled : (a : A) → a ⊕ a ≡ a → a ≡ zero
  doubled a e = sym (add-zero a) ∙ ap (λ x. a ⊕ x) (sym (add-neg a)) ∙ sym (add_assoc a a (neg a)) ∙ ap (λ x. x ⊕ neg a) e ∙ add-neg a

  pub mul-zero : (a : A) → a ⊗ zero ≡ zero
  mul-zero a = doubled (a ⊗ zero) (sym (mul-add a zero zero) ∙ ap (λ x. a ⊗ x) (add-zero zero))

  pub zero-mul : (a : A) → zero ⊗ a ≡ zero
  zero-mul a = mul_comm zero a ∙ mul-zero a

  pub add-mul : (a b c : A) → (a ⊕ b) ⊗ c ≡ a ⊗ c ⊕ b ⊗ c
  add-mul a b c = mul_comm (a ⊕ b) c ∙ mul-add c a b ∙ ap₂ ◌⊕◌ (mul_comm c a) (mul_comm c b)

  pub mul-neg : (a b : A) → a ⊗ neg b ≡ neg (a ⊗ b)
  mul-neg a b = opposite (a ⊗ b) (a ⊗ neg b) (sym (mul-add a b (neg b)) ∙ ap (λ x. a ⊗ x) (add-neg b) ∙ mul-zero a)

  pub neg-mul : (a b : A) → neg a ⊗ b ≡ neg (a ⊗ b)
  neg-mul a b = mul_comm (neg a) b ∙ mul-neg b a ∙ ap neg (mul_comm b a)

  pub sub_self : (a b : A) → a ≡ b → a ⊖ b ≡ zero
  sub_self a b e = sub_is a b ∙ ap (λ x. x ⊕ neg b) e ∙ add-neg b

  pub same_of_sub : (a b : A) → a ⊖ b ≡ zero → a ≡ b
  same_of_sub a b e = sym (neg-neg a) ∙ ap neg (sym (opposite a (neg b) (sym (sub_is a b) ∙ e))) ∙ neg-neg b

  pub cancelled : {a b c : A} → b ⊗ (one ⊘ b) ≡ one → c ≡ a ⊗ b → c ⊘ b ≡ a
  cancelled {a} {b} {c} h e = div_is c b ∙ ap (λ x. x ⊗ (one ⊘ b)) e ∙ mul_assoc a b (one ⊘ b) ∙ ap (λ x. a ⊗ x) h ∙ mul-one a
