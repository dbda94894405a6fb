-- Arithmetic on an i32 that stays between -4096 and 4095: the number that its bits b hold is n - 4096 (`Holds b n`), with n a natural number. Assumes nothing.
use mathlib.Core.Path.{◌≡◌, sym, ap, ◌∙◌, subst}
use mathlib.Core.Bool.{Bool, true, false, not, cond}
use Prim.Native.Nat.{ℕ, zero, suc, ◌+◌, ◌-◌, ◌/◌, ◌^◌, ◌≤◌, ◌<◌}
use native.Mathlib.Omega.{arith}
use lib.Dec.{T, ltb, ltb→lt, nltb→le}
use lib.IntN.{ℤ, pos, negsuc, neg_ℤ, nat_abs, sub_ℕ, ◌+ℤ◌, ◌-ℤ◌}
use lib.Signed.{mag, non_neg, shr_z}
use mir.Syntax.{w32}
use mir.Val.{SFits, to_z, of_z}
use mir.ValLaws.{to_z-of_z, to_z_pos}

-- ---- a - b, whichever is the greater

-- either a is below b, and a - b is -(x + 1), or it is not, and a - b is x
by_order : (P : ℤ → Type 0) (a b : ℕ) → ((x : ℕ) → suc x + a ≡ b → P (negsuc x)) → ((x : ℕ) → b + x ≡ a → P (pos x)) → P (sub_ℕ a b)
by_order P a b m p = go (ltb a b) (ltb→lt a b) (nltb→le a b)
  where
    go : (t : Bool) → (T t → a < b) → (T (not t) → b ≤ a) → P (cond t (negsuc (b - suc a)) (pos (a - b)))
    go true h k = m (b - suc a) (let l : a < b = h tt in omega arith)
    go false h k = p (a - b) (let l : b ≤ a = k tt in omega arith)

minus_is : (x a b : ℕ) → suc x + a ≡ b → negsuc x ≡ sub_ℕ a b
minus_is x a b h = by_order (λ (z : ℤ). negsuc x ≡ z) a b (λ y e. ap negsuc (omega arith)) (λ y e. absurd (omega arith))

plus_is : (x a b : ℕ) → b + x ≡ a → pos x ≡ sub_ℕ a b
plus_is x a b h = by_order (λ (z : ℤ). pos x ≡ z) a b (λ y e. absurd (omega arith)) (λ y e. ap pos (omega arith))

same_difference : (a b c d : ℕ) → a + d ≡ c + b → sub_ℕ a b ≡ sub_ℕ c d
same_difference a b c d h =
    by_order (λ (z : ℤ). z ≡ sub_ℕ c d) a b (λ x e. minus_is x c d (omega arith)) (λ x e. plus_is x c d (omega arith))

sum_is : (a b c d : ℕ) → sub_ℕ a b +ℤ sub_ℕ c d ≡ sub_ℕ (a + c) (b + d)
sum_is a b c d =
    by_order (λ (z : ℤ). z +ℤ sub_ℕ c d ≡ sub_ℕ (a + c) (b + d)) a b
    (λ x e. by_order (λ (z : ℤ). negsuc x +ℤ z ≡ sub_ℕ (a + c) (b + d)) c d (λ y g. minus_is (suc (x + y)) (a + c) (b + d) (omega arith)) (λ y g. same_difference y (suc x) (a + c) (b + d) (omega arith)))
    (λ x e. by_order (λ (z : ℤ). pos x +ℤ z ≡ sub_ℕ (a + c) (b + d)) c d (λ y g. same_difference x (suc y) (a + c) (b + d) (omega arith)) (λ y g. plus_is (x + y) (a + c) (b + d) (omega arith)))

opposite : (x a b : ℕ) → b + x ≡ a → neg_ℤ (pos x) ≡ sub_ℕ b a
opposite zero a b h = plus_is zero b a (omega arith)
opposite (suc x) a b h = minus_is x b a (omega arith)

negation_is : (a b : ℕ) → neg_ℤ (sub_ℕ a b) ≡ sub_ℕ b a
negation_is a b = by_order (λ (z : ℤ). neg_ℤ z ≡ sub_ℕ b a) a b (λ x e. plus_is (suc x) b a (omega arith)) (λ x e. opposite x a b e)

-- ---- an i32

pub record Holds (b n : ℕ) : Type 0 where
  pub reads : to_z w32 b ≡ sub_ℕ n 4096
  pub small : n < 8192

-- an operation's result z: it fits, and it is then held
pub record Result (z : ℤ) (n : ℕ) : Type 0 where
  pub fit : SFits w32 z
  pub held : Holds (of_z w32 z) n

result : (z : ℤ) (n : ℕ) → z ≡ sub_ℕ n 4096 → n < 8192 → Result z n
result z n e h =
    let f : SFits w32 z = record { sfits = subst (λ (x : ℤ). mag x < 2 ^ 31) (sym e) (by_order (λ (x : ℤ). mag x < 2 ^ 31) n 4096 (λ x g. omega arith) (λ x g. omega arith)) } in
    record { fit = f; held = record { reads = to_z-of_z w32 z f ∙ e; small = h } }

pub number : (k : ℕ) → k < 4096 → Holds k (k + 4096)
number k h = record { reads = to_z_pos w32 k (omega arith) ∙ plus_is k (k + 4096) 4096 (omega arith); small = omega arith }

pub plus : {a b m n : ℕ} → Holds a m → Holds b n → (s : ℕ) → s + 4096 ≡ m + n → s < 8192 → Result (to_z w32 a +ℤ to_z w32 b) s
plus {a} {b} {m} {n} p q s e h =
    result (to_z w32 a +ℤ to_z w32 b) s
    (ap (λ (x : ℤ). x +ℤ to_z w32 b) p.reads ∙ ap (λ (x : ℤ). sub_ℕ m 4096 +ℤ x) q.reads ∙ sum_is m 4096 n 4096 ∙ same_difference (m + n) 8192 s 4096 (omega arith))
    h

pub minus : {a b m n : ℕ} → Holds a m → Holds b n → (s : ℕ) → s + n ≡ m + 4096 → s < 8192 → Result (to_z w32 a -ℤ to_z w32 b) s
minus {a} {b} {m} {n} p q s e h =
    result (to_z w32 a -ℤ to_z w32 b) s
    (ap (λ (x : ℤ). x +ℤ neg_ℤ (to_z w32 b)) p.reads
    ∙ ap (λ (x : ℤ). sub_ℕ m 4096 +ℤ neg_ℤ x) q.reads
    ∙ ap (λ (x : ℤ). sub_ℕ m 4096 +ℤ x) (negation_is n 4096)
    ∙ sum_is m 4096 4096 n
    ∙ same_difference (m + 4096) (4096 + n) s 4096 (omega arith))
    h

-- a shift by one halves towards minus infinity, whatever the sign
pub half : {a m : ℕ} → Holds a m → Result (shr_z (to_z w32 a) 2) ((m + 4096) / 2)
half {a} {m} p =
    result (shr_z (to_z w32 a) 2) ((m + 4096) / 2)
    (ap (λ (x : ℤ). shr_z x 2) p.reads
    ∙ by_order (λ (x : ℤ). shr_z x 2 ≡ sub_ℕ ((m + 4096) / 2) 4096) m 4096 (λ x e. minus_is (x / 2) ((m + 4096) / 2) 4096 (omega arith)) (λ x e. plus_is (x / 2) ((m + 4096) / 2) 4096 (omega arith)))
    (omega (arith, p.small))

-- a number that is not negative, as an unsigned one
pub record Unsigned (b n : ℕ) : Type 0 where
  pub sign : T (non_neg (to_z w32 b))
  pub is : nat_abs (to_z w32 b) ≡ n

pub unsigned : {a m : ℕ} → Holds a m → (n : ℕ) → m ≡ n + 4096 → Unsigned a n
unsigned {a} {m} p n e =
    let q : to_z w32 a ≡ pos n = p.reads ∙ sym (plus_is n m 4096 (omega arith)) in
    record { sign = subst (λ (x : ℤ). T (non_neg x)) (sym q) tt; is = ap nat_abs q }
