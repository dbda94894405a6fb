-- The root of a natural number, cut to a whole number: what it is, that nothing else is it, and how it scales by powers of 4. Assumes nothing.
use mathlib.Core.Path.{◌≡◌, refl, sym, ap, ◌∙◌, subst}
use mathlib.Core.Bool.{Bool, true, false, not, cond}
use Prim.Native.Nat.{ℕ, zero, suc, ◌+◌, ◌-◌, ◌*◌, ◌/◌, ◌%◌, ◌^◌, ◌≤◌, ◌<◌}
use native.Mathlib.Nat.{le_refl, le_antisymm, lt_of_lt_of_le, lt_of_le_of_lt, le_of_suc-le-suc, lt_of_not-le, not-le_of_lt, mul-le-mul, mul-le-mul_right, mul-lt-mul_of_pos_right, mul-mul-mul_comm, mul_assoc, mul_comm, mul-pos, suc-mul, mul-suc, pow-suc, div-lt_iff_lt-mul, le-div_iff_mul-le}
use native.Mathlib.Numerals.{add-one}
use native.Mathlib.Omega.{arith}
use lib.Dec.{T, leb, leb→le, nleb→lt}
use lib.Pow.{pow_pos, pow_mono}
use lib.Ieee.{size}
use lib.Ieee.Digits.{size-lt}
use Rattle.roots.specs.Root.{root_of, whole_root}

-- ---- squares

pub square_lt : (a b : ℕ) → a * a < b * b → a < b
square_lt a b h = lt_of_not-le (λ (g : b ≤ a). not-le_of_lt h (mul-le-mul g g))

pub square_suc : (a : ℕ) → suc a * suc a ≡ a * a + 2 * a + 1
square_suc a =
    let p : suc a * suc a ≡ a * suc a + suc a = suc-mul a (suc a) in
    let q : a * suc a ≡ a * a + a = mul-suc a a in
    omega arith

pub square_double : (a : ℕ) → 2 * a * (2 * a) ≡ 4 * (a * a)
square_double a = mul-mul-mul_comm 2 a 2 a

-- ---- the root

pub record IsRoot (n r : ℕ) : Type 0 where
  pub reached : r * r ≤ n
  pub last : n < suc r * suc r

pub root_unique : {n r s : ℕ} → IsRoot n r → IsRoot n s → r ≡ s
root_unique {n} {r} {s} p q = le_antisymm (below r s p q) (below s r q p)
  where
    below : (a b : ℕ) → IsRoot n a → IsRoot n b → a ≤ b
    below a b u v = le_of_suc-le-suc (square_lt a (suc b) (lt_of_le_of_lt u.reached v.last))

next_digit : (n s : ℕ) → IsRoot (n / 4) s → IsRoot n (let r = 2 * s in cond (leb (suc r * suc r) n) (suc r) r)
next_digit n s before = go (leb (suc r * suc r) n) (leb→le (suc r * suc r) n) (nleb→lt (suc r * suc r) n)
  where
    r : ℕ
    r = 2 * s

    double : r * r ≡ 4 * (s * s)
    double = square_double s

    go : (b : Bool) → (T b → suc r * suc r ≤ n) → (T (not b) → n < suc r * suc r) → IsRoot n (cond b (suc r) r)
    go true a b = record { reached = a tt; last = omega (arith, before.last, square_suc (suc r), square_suc r, double, square_suc s) }
    go false a b = record { reached = omega (arith, before.reached, double); last = b tt }

root_of_is : (d n : ℕ) → n < 4 ^ d → IsRoot n (root_of d n)
unfolding root_of
root_of_is zero n h = record { reached = omega arith; last = h }
root_of_is (suc d) n h =
    next_digit n (root_of d (n / 4)) (root_of_is d (n / 4) ((div-lt_iff_lt-mul (omega arith)).1 (subst (λ (x : ℕ). n < x) (pow-suc 4 d) h)))

pub whole_root_is : (n : ℕ) → IsRoot n (whole_root n)
unfolding whole_root
whole_root_is n = root_of_is (size n) n (lt_of_lt_of_le (size-lt n) (two_four (size n)))
  where
    two_four : (d : ℕ) → 2 ^ d ≤ 4 ^ d
    two_four zero = le_refl 1
    two_four (suc d) = omega (arith, two_four d, pow-suc 2 d, pow-suc 4 d)

-- ---- a root with more digits begins with the root's

pub root-scale : (p r w d : ℕ) → IsRoot p r → IsRoot (p * (2 ^ d * 2 ^ d)) w → w / 2 ^ d ≡ r
root-scale p r w d u v = le_antisymm (le_of_suc-le-suc ((div-lt_iff_lt-mul (pow_pos d)).1 under)) ((le-div_iff_mul-le (pow_pos d)).1 over)
  where
    t : ℕ
    t = 2 ^ d

    squared : (a : ℕ) → a * t * (a * t) ≡ a * a * (t * t)
    squared a = mul-mul-mul_comm a t a t

    under : w < suc r * t
    under =
        square_lt w (suc r * t)
        (lt_of_le_of_lt v.reached (subst (λ (x : ℕ). p * (t * t) < x) (sym (squared (suc r))) (mul-lt-mul_of_pos_right u.last (mul-pos (pow_pos d) (pow_pos d)))))

    over : r * t ≤ w
    over =
        le_of_suc-le-suc (square_lt (r * t) (suc w) (lt_of_le_of_lt (subst (λ (x : ℕ). x ≤ p * (t * t)) (sym (squared r)) (mul-le-mul_right (t * t) u.reached)) v.last))

-- ---- digit by digit

-- After i turns: r is the root of m's first 2 * i digits (m has 64, and zeros follow), rest is what its square leaves of them, and left are the digits to come.
pub record Turned (m i left rest r : ℕ) : Type 0 where
  pub square : r * r + rest ≡ m * 4 ^ i / 2 ^ 64
  pub within : rest ≤ 2 * r
  pub digits : left ≡ m * 4 ^ i % 2 ^ 64
  pub small : r < 2 ^ i

module _ (m i left rest r : ℕ) (t : Turned m i left rest r) where
  pub turned_lt : i ≤ 54 → r < 2 ^ 54
  turned_lt h = lt_of_lt_of_le t.small (pow_mono h)

  pub turned-root : IsRoot (m * 4 ^ i / 2 ^ 64) r
  turned-root = record { reached = omega (arith, t.square); last = omega (arith, t.square, t.within, square_suc r) }

  -- the digits' next two, and the root's next
  next_square : (x : ℕ) → x ≡ m * 4 ^ i → m * 4 ^ (i + 1) ≡ x * 4
  next_square x e = ap (λ (j : ℕ). m * 4 ^ j) (add-one i) ∙ ap (λ (p : ℕ). m * p) (pow-suc 4 i) ∙ sym (mul_assoc m (4 ^ i) 4) ∙ ap (λ (p : ℕ). p * 4) (sym e)

  next_small : r * 2 + 1 < 2 ^ (i + 1)
  next_small = omega (arith, t.small, ap (λ (j : ℕ). 2 ^ j) (add-one i) ∙ pow-suc 2 i)

  double : r * 2 * (r * 2) ≡ 4 * (r * r)
  double = mul-mul-mul_comm r 2 r 2 ∙ mul_comm (r * r) 4

  pub turn_one : r * 4 + 1 ≤ rest * 4 + left / 2 ^ 62 → Turned m (i + 1) (left * 4 % 2 ^ 64) (rest * 4 + left / 2 ^ 62 - (r * 4 + 1)) (r * 2 + 1)
  turn_one h = record {
    square = omega (arith, t.square, t.digits, next_square (m * 4 ^ i) refl, double, odd_square);
    within = omega (arith, t.within, t.digits);
    digits = omega (arith, t.digits, next_square (m * 4 ^ i) refl);
    small = next_small;
  }
    where
      odd_square : (r * 2 + 1) * (r * 2 + 1) ≡ r * 2 * (r * 2) + 2 * (r * 2) + 1
      odd_square = ap (λ (x : ℕ). x * x) (add-one (r * 2)) ∙ square_suc (r * 2)

  pub turn-zero : rest * 4 + left / 2 ^ 62 < r * 4 + 1 → Turned m (i + 1) (left * 4 % 2 ^ 64) (rest * 4 + left / 2 ^ 62) (r * 2)
  turn-zero h = record {
    square = omega (arith, t.square, t.digits, next_square (m * 4 ^ i) refl, double);
    within = omega arith;
    digits = omega (arith, t.digits, next_square (m * 4 ^ i) refl);
    small = omega (arith, next_small);
  }
