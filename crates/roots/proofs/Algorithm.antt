-- The algorithm of `nearest_root` gives `root_units`. With q brought to 64 digits and the exponent even, the number under the root is an even P times a power of 4,
-- whose root begins with the digits of r, the root of P. So r / 2 has the format's digits, and r's last digit says which neighbour is nearer. Assumes nothing.
use mathlib.Core.Path.{◌≡◌, refl, sym, ap, ◌∙◌, subst}
use mathlib.Core.Bool.{false}
use Prim.Native.Nat.{ℕ, zero, suc, ◌+◌, ◌-◌, ◌*◌, ◌/◌, ◌%◌, ◌^◌, ◌≤◌, ◌<◌, compare}
use native.Mathlib.Nat.{le_of_eq, le_trans, lt_of_lt_of_le, lt_of_le_of_lt, le_of_suc-le-suc, mul_left_comm, add-mul, mul-mod_left, pow-suc, mul-le-mul_right, mul-lt-mul_of_pos_right, mul-mul-mul_comm, mul-pos, mul-div_cancel, div-mul-le_self, div-lt_iff_lt-mul, div-div-eq-div-mul}
use native.Mathlib.Omega.{arith}
use lib.Pow.{pow-add, pow_pos, pow_mono, shl_lt, shl_exact}
use lib.Count.{count_leading_zeros, leading_top}
use lib.Ieee.{Format, Float, prec, low, size, nearest, units, to_bits}
use Rattle.roots.specs.Root.{whole_root, root_units}
use Rattle.roots.specs.Steps.{Packable, Rootable, RootOfUnits, Halved}
use Rattle.roots.proofs.Whole.{IsRoot, square_lt, square_suc, square_double, whole_root_is, root-scale}
use Rattle.roots.specs.Laws.Pattern.{units_bits}
use Rattle.roots.specs.Laws.Neighbours.{joined, four, twice, pow_lt_back, size_is, nearest_down, nearest_up}

-- ---- the root in units

-- with k digits dropped from the whole part w of the root of v
abbrev pub cut : Format → (v w k : ℕ) → Float
cut f v w k =
    let q = w / 2 ^ k in
    let mid = (2 * q + 1) * 2 ^ k in
    units f false (nearest q (compare (4 * v) (mid * mid))) k

pub root_units_is : (f : Format) (n : ℕ) → let v = n * 2 ^ low f in root_units f n ≡ cut f v (whole_root v) (size (whole_root v) - prec f)
unfolding root_units
root_units_is f n = refl

-- the nearest of r's halves, at an even P
pub odd_square : (r : ℕ) → r % 2 ≡ 1 → r * r % 2 ≡ 1
odd_square r o =
    let h = r / 2 in
    let e : r ≡ suc (2 * h) = omega arith in
    let s : r * r ≡ 2 * h * (2 * h) + 2 * (2 * h) + 1 = ap (λ (x : ℕ). x * x) e ∙ square_suc (2 * h) in
    let d : 2 * h * (2 * h) ≡ 4 * (h * h) = square_double h in
    omega arith

pub rounded : (p r : ℕ) → p % 2 ≡ 0 → IsRoot p r → (t : ℕ) → 0 < t
    → nearest (r / 2) (compare (p * (t * t)) ((2 * (r / 2) + 1) * t * ((2 * (r / 2) + 1) * t))) ≡ (r + 1) / 2
rounded p r even root t pos = go (r % 2) refl
  where
    s : ℕ
    s = 2 * (r / 2) + 1

    T² : 0 < t * t
    T² = mul-pos pos pos

    square : s * t * (s * t) ≡ s * s * (t * t)
    square = mul-mul-mul_comm s t s t

    go : (b : ℕ) → r % 2 ≡ b → nearest (r / 2) (compare (p * (t * t)) (s * t * (s * t))) ≡ (r + 1) / 2
    go zero e =
        let is : s ≡ suc r = omega arith in
        nearest_down (r / 2) (p * (t * t)) (s * t * (s * t))
        (subst (λ (x : ℕ). p * (t * t) < x) (sym square) (mul-lt-mul_of_pos_right (subst (λ (x : ℕ). p < x * x) (sym is) root.last) T²))
        ∙ omega arith
    go (suc b) e =
        let o : r % 2 ≡ 1 = omega arith in
        let is : s ≡ r = omega arith in
        let less : r * r < p = omega (arith, root.reached, odd_square r o) in
        nearest_up (r / 2) (p * (t * t)) (s * t * (s * t))
        (subst (λ (x : ℕ). x < p * (t * t)) (sym square) (mul-lt-mul_of_pos_right (subst (λ (x : ℕ). x * x < p) (sym is) less) T²))
        ∙ omega arith

-- what root_digits is handed, and the number that it takes the root of
abbrev pub full : (q odd : ℕ) → ℕ
full q odd = q * 2 ^ count_leading_zeros 64 q % 2 ^ 64 / 2 ^ odd

abbrev pub radicand : (q n odd : ℕ) → ℕ
radicand q n odd = full q odd * 4 ^ n / 2 ^ 64

-- q has j + 1 digits
abbrev Leading : ℕ → Type 0
Leading q = (j : ℕ) × (count_leading_zeros 64 q + suc j ≡ 64) × (2 ^ j ≤ q) × (q < 2 ^ suc j)

leading : (q k p l : ℕ) → Rootable q k p l → Leading q
leading q k p l able = leading_top 64 q able.some (lt_of_lt_of_le able.small (pow_mono {i = p} {j = 64} (omega (arith, able.digits))))

pub shift_small : (q k p l : ℕ) → Rootable q k p l → count_leading_zeros 64 q < 64
shift_small q k p l able = omega (arith, (leading q k p l able).1)

pub hidden_digit : (q k p l : ℕ) → Rootable q k p l → 0 < p
hidden_digit q k p l able = let h = leading q k p l able in omega (arith, pow_lt_back h.0 p q h.2 able.small)

module _ (q k p l odd dropped : ℕ) (able : Rootable q k p l) (halved : Halved k (count_leading_zeros 64 q) p l odd dropped) where
  abbrev z : ℕ
  z = count_leading_zeros 64 q

  abbrev n : ℕ
  n = p + 1

  lead : Leading q
  lead = leading q k p l able

  few : lead.0 < p
  few = pow_lt_back lead.0 p q lead.2 able.small

  -- the places by which q is shifted in all
  abbrev by : ℕ
  by = z + 2 * n - 64 - odd

  abbrev a : ℕ
  a = radicand q n odd

  abbrev r : ℕ
  r = whole_root a

  full_is : full q odd ≡ q * 2 ^ (z - odd)
  full_is =
      ap (λ (x : ℕ). x / 2 ^ odd)
      (shl_exact (suc lead.0) z 64 lead.3 (omega (arith, lead.1)) ∙ sym (joined q (z - odd) odd z (omega (arith, lead.1, few, halved.bit, able.digits))))
      ∙ mul-div_cancel (q * 2 ^ (z - odd)) (pow_pos odd)

  radicand_is : a ≡ q * 2 ^ by
  radicand_is =
      ap (λ (x : ℕ). x / 2 ^ 64)
      (ap (λ (x : ℕ). x * 4 ^ n) full_is
      ∙ ap (λ (x : ℕ). q * 2 ^ (z - odd) * x) (four n ∙ sym (pow-add 2 n n))
      ∙ joined q (z - odd) (n + n) (by + 64) (omega (arith, lead.1, few, halved.bit, able.digits))
      ∙ sym (joined q by 64 (by + 64) refl))
      ∙ mul-div_cancel (q * 2 ^ by) (pow_pos 64)

  even : a % 2 ≡ 0
  even = ap (λ (x : ℕ). x % 2) (radicand_is ∙ sym (joined q (by - 1) 1 by (omega (arith, lead.1, few, halved.bit, able.digits)))) ∙ mul-mod_left (q * 2 ^ (by - 1)) 2

  root : IsRoot a r
  root = whole_root_is a

  -- r has n digits
  reaches : 2 ^ p ≤ r
  reaches =
      le_of_suc-le-suc (square_lt (2 ^ p) (suc r)
      (lt_of_le_of_lt (le_trans (le_of_eq (sym (pow-add 2 p p)))
      (le_trans (pow_mono {i = p + p} {j = lead.0 + by} (omega (arith, lead.1, few, halved.bit, able.digits)))
      (le_trans (le_of_eq (pow-add 2 lead.0 by)) (subst (λ (x : ℕ). 2 ^ lead.0 * 2 ^ by ≤ x) (sym radicand_is) (mul-le-mul_right (2 ^ by) lead.2))))) root.last))

  below : r < 2 ^ n
  below =
      square_lt r (2 ^ n)
      (lt_of_le_of_lt root.reached
      (subst (λ (x : ℕ). a < x) (pow-add 2 n n)
      (lt_of_lt_of_le (subst (λ (x : ℕ). x < 2 ^ (suc lead.0 + by)) (sym radicand_is) (shl_lt (suc lead.0) by lead.3))
      (pow_mono {i = suc lead.0 + by} {j = n + n} (omega (arith, lead.1, few, halved.bit, able.digits))))))

  -- the root of all of q * 2 ^ k begins with r
  abbrev d : ℕ
  d = dropped - 1

  all_is : q * 2 ^ k * 2 ^ l ≡ a * (2 ^ d * 2 ^ d)
  all_is =
      joined q k l (k + l) refl
      ∙ sym (joined q by (d + d) (k + l) (omega (arith, lead.1, few, halved.bit, halved.half, able.apart)))
      ∙ ap (λ (x : ℕ). x * 2 ^ (d + d)) (sym radicand_is)
      ∙ ap (λ (x : ℕ). a * x) (pow-add 2 d d)

  abbrev w : ℕ
  w = whole_root (q * 2 ^ k * 2 ^ l)

  begins : w / 2 ^ d ≡ r
  begins = root-scale a r w d root (subst (λ (x : ℕ). IsRoot x w) all_is (whole_root_is (q * 2 ^ k * 2 ^ l)))

  one : dropped ≡ suc d
  one = omega (arith, halved.half, able.apart, lead.1)

  size_w : size w ≡ suc (p + d)
  size_w =
      size_is w (p + d)
      (le_trans (le_of_eq (pow-add 2 p d)) (le_trans (mul-le-mul_right (2 ^ d) (subst (λ (x : ℕ). 2 ^ p ≤ x) (sym begins) reaches)) (div-mul-le_self w (2 ^ d))))
      (subst (λ (x : ℕ). w < x) (sym (pow-add 2 n d) ∙ ap (λ (x : ℕ). 2 ^ x) (omega arith)) ((div-lt_iff_lt-mul (pow_pos d)).0 (subst (λ (x : ℕ). x < 2 ^ n) (sym begins) below)))

  halves : w / 2 ^ dropped ≡ r / 2
  halves = ap (λ (x : ℕ). w / x) (ap (λ (x : ℕ). 2 ^ x) one ∙ pow-suc 2 d) ∙ sym (div-div-eq-div-mul w (2 ^ d) 2) ∙ ap (λ (x : ℕ). x / 2) begins

  four_all : 4 * (q * 2 ^ k * 2 ^ l) ≡ a * (2 ^ dropped * 2 ^ dropped)
  four_all =
      ap (λ (x : ℕ). 4 * x) all_is
      ∙ mul_left_comm 4 a (2 ^ d * 2 ^ d)
      ∙ ap (λ (x : ℕ). a * x) (sym (square_double (2 ^ d)) ∙ ap (λ (x : ℕ). x * x) (sym (twice dropped d one)))

  is : (f : Format) → p ≡ prec f → l ≡ low f → units f false ((r + 1) / 2) dropped ≡ root_units f (q * 2 ^ k)
  is f ep el = sym (
      root_units_is f (q * 2 ^ k)
      ∙ ap (λ (x : ℕ). cut f (q * 2 ^ k * 2 ^ x) (whole_root (q * 2 ^ k * 2 ^ x)) (size (whole_root (q * 2 ^ k * 2 ^ x)) - prec f)) (sym el)
      ∙ ap (cut f (q * 2 ^ k * 2 ^ l) w) (ap (λ (x : ℕ). x - prec f) size_w ∙ omega (arith, one))
      ∙ ap (λ (h : ℕ). units f false (nearest h (compare (4 * (q * 2 ^ k * 2 ^ l)) ((2 * h + 1) * 2 ^ dropped * ((2 * h + 1) * 2 ^ dropped)))) dropped) halves
      ∙ ap (λ (v : ℕ). units f false (nearest (r / 2) (compare v ((2 * (r / 2) + 1) * 2 ^ dropped * ((2 * (r / 2) + 1) * 2 ^ dropped)))) dropped) four_all
      ∙ ap (λ (h : ℕ). units f false h dropped) (rounded a r even root (2 ^ dropped) (pow_pos dropped))
      )

  -- ---- the pattern

  hidden : 2 ^ p ≡ 2 * 2 ^ (p - 1)
  hidden = twice p (p - 1) (omega (arith, few))

  more : 2 ^ n ≡ 2 * 2 ^ p
  more = twice n p (omega arith)

  packable : (f : Format) → p ≡ prec f → Packable f ((r + 1) / 2) dropped
  packable f ep = record {
    small = subst (λ (x : ℕ). (r + 1) / 2 ≤ 2 ^ x) ep (omega (arith, below, more));
    full = λ h. subst (λ (x : ℕ). 2 ^ (x - 1) ≤ (r + 1) / 2) ep (omega (arith, reaches, hidden));
  }

  pub root_small : r < 2 ^ 54
  root_small = lt_of_lt_of_le below (pow_mono {i = n} {j = 54} (omega (arith, able.digits)))

  dropped_small : dropped + 2 < 2 ^ 12
  dropped_small = omega (arith, halved.half, halved.bit, lead.1, able.exponent, able.least)

  pub pattern_shifted : dropped * 2 ^ (p - 1) % 2 ^ 64 ≡ dropped * 2 ^ (p - 1)
  pattern_shifted = shl_exact 12 (p - 1) 64 (omega (arith, dropped_small)) (omega (arith, able.digits))

  pub pattern_fits : dropped * 2 ^ (p - 1) + (r + 1) / 2 < 2 ^ 64
  pattern_fits =
      let e : (dropped + 2) * 2 ^ (p - 1) ≡ dropped * 2 ^ (p - 1) + 2 * 2 ^ (p - 1) = add-mul dropped 2 (2 ^ (p - 1)) in
      let h : (dropped + 2) * 2 ^ (p - 1) < 2 ^ (12 + (p - 1)) = shl_lt 12 (p - 1) dropped_small in
      let m : 2 ^ (12 + (p - 1)) ≤ 2 ^ 64 = pow_mono {i = 12 + (p - 1)} {j = 64} (omega (arith, able.digits)) in
      omega (arith, below, more, hidden)

  pub root_of_units : RootOfUnits q k p l (dropped * 2 ^ (p - 1) + (r + 1) / 2)
  root_of_units f ep el h =
      ap (λ (x : ℕ). dropped * 2 ^ (x - 1) + (r + 1) / 2) ep
      ∙ sym (units_bits f ((r + 1) / 2) dropped (packable f ep) (omega (arith, halved.half, halved.bit, lead.1, few)))
      ∙ ap (to_bits f) (is f ep el)
