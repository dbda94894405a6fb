-- Powers of two and binary sizes, and how a comparison picks a neighbour. Assumes nothing.
use Rattle.std.specs.Prelude.{◌≡◌, refl, ◌⊎◌, Bool, true, false, not, T, ltb}
use Rattle.std.proofs.Common.{sym, ap, ◌∙◌, subst, inl, inr, le_antisymm, lt_of_lt_of_le, lt_of_not-le, not-le_of_lt, lt_irrefl, lt_trans, mul_assoc, pow-suc, ltb→lt, nltb→le, leb→le, eqb→eq, pow-add, pow_mono}
use Prim.Native.Nat.{ℕ, zero, suc, ◌+◌, ◌*◌, ◌^◌, ◌≤◌, ◌<◌, compare, Ordering}
use Rattle.std.proofs.Math.Nat.{mul-mul-mul_comm, pow-succ'}
use Rattle.std.proofs.Math.Dec.{is_le, compare_is_eq, nleb→lt}
use Rattle.std.specs.Float.Ieee.{size, nearest}
use Rattle.std.specs.Float.Ieee.Digits.{size-lt, size-le}

-- ---- numbers

pub low_or_high : (a b : ℕ) → (a < b) ⊎ (b ≤ a)
low_or_high a b = go (ltb a b) (ltb→lt a b) (nltb→le a b)
  where
    go : (t : Bool) → (T t → a < b) → (T (not t) → b ≤ a) → (a < b) ⊎ (b ≤ a)
    go true h k = inl (h tt)
    go false h k = inr (k tt)

-- ---- powers of two

pub joined : (q a b c : ℕ) → a + b ≡ c → q * 2 ^ a * 2 ^ b ≡ q * 2 ^ c
joined q a b c e = mul_assoc q (2 ^ a) (2 ^ b) ∙ ap (λ (x : ℕ). q * x) (sym (pow-add 2 a b) ∙ ap (λ (x : ℕ). 2 ^ x) e)

pub four : (n : ℕ) → 4 ^ n ≡ 2 ^ n * 2 ^ n
four zero = refl
four (suc n) = pow-suc 4 n ∙ ap (λ (x : ℕ). x * 4) (four n) ∙ mul-mul-mul_comm (2 ^ n) (2 ^ n) 2 2 ∙ sym (ap (λ (x : ℕ). x * x) (pow-suc 2 n))

pub twice : (n m : ℕ) → n ≡ suc m → 2 ^ n ≡ 2 * 2 ^ m
twice n m e = ap (λ (x : ℕ). 2 ^ x) e ∙ pow-succ' 2 m

pub pow_lt_back : (a b n : ℕ) → 2 ^ a ≤ n → n < 2 ^ b → a < b
pow_lt_back a b n l h = lt_of_not-le (λ (g : b ≤ a). not-le_of_lt (lt_of_lt_of_le h (pow_mono g)) l)

pub size_is : (n j : ℕ) → 2 ^ j ≤ n → n < 2 ^ suc j → size n ≡ suc j
size_is n j l h = le_antisymm (size-le n (suc j) h) (pow_lt_back j (size n) n l (size-lt n))

-- ---- the neighbour that a comparison picks

pub nearest_down : (q a b : ℕ) → a < b → nearest q (compare a b) ≡ q
nearest_down q a b h = go (compare a b) (nleb→lt a b) (eqb→eq a b)
  where
    go : (o : Ordering) → (T (not (is_le o)) → b < a) → (T (compare_is_eq o) → a ≡ b) → nearest q o ≡ q
    go Ordering.lt u e = refl
    go Ordering.eq u e = absurd (lt_irrefl b (subst (λ (x : ℕ). x < b) (e tt) h))
    go Ordering.gt u e = absurd (lt_irrefl a (lt_trans h (u tt)))

pub nearest_up : (q a b : ℕ) → b < a → nearest q (compare a b) ≡ suc q
nearest_up q a b h = go (compare a b) (leb→le a b)
  where
    go : (o : Ordering) → (T (is_le o) → a ≤ b) → nearest q o ≡ suc q
    go Ordering.lt l = absurd (not-le_of_lt h (l tt))
    go Ordering.eq l = absurd (not-le_of_lt h (l tt))
    go Ordering.gt l = refl
