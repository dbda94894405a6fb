-- The incoming gradients of a face's weights, over any arithmetic.
use Rattle.std.specs.Prelude.{ℕ}
use Rattle.geometry.specs.Arith.{Arith}
use Rattle.geometry.specs.Formula.{sum_of}

module _ {A : Type 0} (R : Arith A) where
  open R use {mul as ◌⊗◌}

  infixl 7 ◌⊗◌
  -- the sum of the products of n channels
  unfoldable pub gathered : (ℕ → A) → (ℕ → A) → ℕ → A
  gathered value incoming = sum_of R (λ k. value k ⊗ incoming k)
