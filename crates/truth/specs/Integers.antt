-- The integers are a commutative ring. They are not divided here.
use Rattle.std.specs.Prelude.{ℕ, zero, suc, ◌*◌, ◌<◌, ◌≡◌, refl, ◌⊎◌, ℤ, pos, negsuc, neg_ℤ, ◌+ℤ◌, ◌-ℤ◌, ◌*ℤ◌}
use Rattle.std.proofs.Common.{sym, ◌∙◌, ap, ap₂, inl, inr, not-suc-le-zero, zero-lt-suc, mul-pos}
use Rattle.std.proofs.Math.IntN.{suc_ℤ, pred_ℤ, +ℤ_assoc, +ℤ_comm, +ℤ_idl, +ℤ_idr, +ℤ_invl, +ℤ_invr, neg_ℤ-+ℤ, *ℤ-one, zero-*ℤ, *ℤ-zero, *ℤ_comm, suc_ℤ-*ℤ, pred_ℤ-*ℤ, one}
use Rattle.geometry.specs.Arith.{Arith}
use Rattle.truth.specs.Laws.{Laws}

abbrev pub integers : Arith ℤ
integers = record { add = ◌+ℤ◌; sub = ◌-ℤ◌; mul = ◌*ℤ◌; div = λ a b. pos 0; neg = neg_ℤ; zero = pos 0; one = pos 1 }

-- up and down from 0
by_steps : (P : ℤ → Type 0) → P (pos 0) → ((k : ℤ) → P k → P (suc_ℤ k)) → ((k : ℤ) → P k → P (pred_ℤ k)) → (k : ℤ) → P k
by_steps P z up down (pos zero) = z
by_steps P z up down (pos (suc n)) = up (pos n) (by_steps P z up down (pos n))
by_steps P z up down (negsuc zero) = down (pos 0) z
by_steps P z up down (negsuc (suc n)) = down (negsuc n) (by_steps P z up down (negsuc n))

add-add : (a b c d : ℤ) → (a +ℤ b) +ℤ (c +ℤ d) ≡ (a +ℤ c) +ℤ (b +ℤ d)
add-add a b c d =
    +ℤ_assoc a b (c +ℤ d)
    ∙ ap (λ x. a +ℤ x) (sym (+ℤ_assoc b c d) ∙ ap (λ x. x +ℤ d) (+ℤ_comm b c) ∙ +ℤ_assoc c b d)
    ∙ sym (+ℤ_assoc a c (b +ℤ d))

mul-add : (a b c : ℤ) → a *ℤ (b +ℤ c) ≡ a *ℤ b +ℤ a *ℤ c
mul-add a b c =
    by_steps (λ k. k *ℤ (b +ℤ c) ≡ k *ℤ b +ℤ k *ℤ c) (zero-*ℤ (b +ℤ c) ∙ sym (ap₂ ◌+ℤ◌ (zero-*ℤ b) (zero-*ℤ c)))
    (λ k h. suc_ℤ-*ℤ k (b +ℤ c) ∙ ap (λ x. x +ℤ (b +ℤ c)) h ∙ add-add (k *ℤ b) (k *ℤ c) b c ∙ sym (ap₂ ◌+ℤ◌ (suc_ℤ-*ℤ k b) (suc_ℤ-*ℤ k c)))
    (λ k h.
    pred_ℤ-*ℤ k (b +ℤ c)
    ∙ ap₂ ◌+ℤ◌ h (neg_ℤ-+ℤ b c)
    ∙ add-add (k *ℤ b) (k *ℤ c) (neg_ℤ b) (neg_ℤ c)
    ∙ sym (ap₂ ◌+ℤ◌ (pred_ℤ-*ℤ k b) (pred_ℤ-*ℤ k c)))
    a

add-mul : (a b c : ℤ) → (a +ℤ b) *ℤ c ≡ a *ℤ c +ℤ b *ℤ c
add-mul a b c = *ℤ_comm (a +ℤ b) c ∙ mul-add c a b ∙ ap₂ ◌+ℤ◌ (*ℤ_comm c a) (*ℤ_comm c b)

opposite : (a b : ℤ) → a +ℤ b ≡ pos 0 → b ≡ neg_ℤ a
opposite a b e =
    sym (+ℤ_idl b) ∙ ap (λ x. x +ℤ b) (sym (+ℤ_invl a)) ∙ +ℤ_assoc (neg_ℤ a) a b ∙ ap (λ x. neg_ℤ a +ℤ x) e ∙ +ℤ_idr (neg_ℤ a)

neg-mul : (a c : ℤ) → neg_ℤ a *ℤ c ≡ neg_ℤ (a *ℤ c)
neg-mul a c = opposite (a *ℤ c) (neg_ℤ a *ℤ c) (sym (add-mul a (neg_ℤ a) c) ∙ ap (λ x. x *ℤ c) (+ℤ_invr a) ∙ zero-*ℤ c)

mul_assoc : (a b c : ℤ) → a *ℤ b *ℤ c ≡ a *ℤ (b *ℤ c)
mul_assoc a b c =
    by_steps (λ k. k *ℤ b *ℤ c ≡ k *ℤ (b *ℤ c)) (ap (λ x. x *ℤ c) (zero-*ℤ b) ∙ zero-*ℤ c ∙ sym (zero-*ℤ (b *ℤ c)))
    (λ k h. ap (λ x. x *ℤ c) (suc_ℤ-*ℤ k b) ∙ add-mul (k *ℤ b) b c ∙ ap (λ x. x +ℤ b *ℤ c) h ∙ sym (suc_ℤ-*ℤ k (b *ℤ c)))
    (λ k h. ap (λ x. x *ℤ c) (pred_ℤ-*ℤ k b) ∙ add-mul (k *ℤ b) (neg_ℤ b) c ∙ ap₂ ◌+ℤ◌ h (neg-mul b c) ∙ sym (pred_ℤ-*ℤ k (b *ℤ c)))
    a

pub integer_laws : Laws integers
unfolding one
integer_laws =
    record {
      add_assoc = +ℤ_assoc;
      add_comm = +ℤ_comm;
      add-zero = +ℤ_idr;
      add-neg = +ℤ_invr;
      sub_is = λ a b. refl;
      mul_assoc = mul_assoc;
      mul_comm = *ℤ_comm;
      mul-one = *ℤ-one;
      mul-add = mul-add;
      div_is = λ a b. sym (*ℤ-zero a);
    }

-- ---- no product of two that are not 0 is 0

abbrev pub NonZero : ℤ → Type 0
NonZero (pos zero) = ⊥
NonZero (pos (suc n)) = Unit {0}
NonZero (negsuc n) = Unit {0}

abbrev pub zero_or_not : (a : ℤ) → (a ≡ pos 0) ⊎ NonZero a
zero_or_not (pos zero) = inl refl
zero_or_not (pos (suc n)) = inr tt
zero_or_not (negsuc n) = inr tt

above : (k : ℕ) → 0 < k → NonZero (pos k) × NonZero (neg_ℤ (pos k))
above zero h = absurd (not-suc-le-zero h)
above (suc k) h = (tt, tt)

positive : (m n : ℕ) → 0 < suc m * suc n
positive m n = mul-pos (zero-lt-suc m) (zero-lt-suc n)

pub nonzero_mul : (a b : ℤ) → NonZero a → NonZero b → NonZero (a *ℤ b)
nonzero_mul (pos zero) b h k = absurd h
nonzero_mul (pos (suc m)) (pos zero) h k = absurd k
nonzero_mul (pos (suc m)) (pos (suc n)) h k = (above (suc m * suc n) (positive m n)).0
nonzero_mul (pos (suc m)) (negsuc n) h k = (above (suc m * suc n) (positive m n)).1
nonzero_mul (negsuc m) (pos zero) h k = absurd k
nonzero_mul (negsuc m) (pos (suc n)) h k = (above (suc m * suc n) (positive m n)).1
nonzero_mul (negsuc m) (negsuc n) h k = (above (suc m * suc n) (positive m n)).0
