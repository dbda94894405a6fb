-- Rounding q * 2 ^ k / 2 ^ l into a format, by a shift of q that drops `by` digits: the quotient, rounded, times 2 ^ d of the format's smallest values.
-- The format keeps `prec` digits of q, or fewer where d is 0.
use Rattle.std.proofs.Common.{◌≡◌, ℕ, zero, suc, ◌+◌, ◌-◌, ◌*◌, ◌/◌, ◌^◌, ◌<◌, ◌≤◌, Bool, cond, ltb, ◌⊎◌, sym, refl, ap, ◌∙◌, subst, inl, inr, le_trans, le_of_eq, le_refl, lt_of_lt_of_le, mul-le-mul_right, zero-lt-suc, div-lt_iff_lt-mul, mul-le-mul, add_comm, eq-or-lt_of_le, mul-pos, le-div_iff_mul-le, arith, lit<, pow_pos, pow_mono, pow-add, shl_lt}
use lib.Count.{count_trailing_zeros}
use lib.Pow.{pow-lt}
use lib.Ieee.{Float, nan, inf, fin, Format, binary32, binary64, minus, odd, prec, low, up, down, size, units, round}
use lib.Ieee.Digits.{size-lt, size-le}
use lib.Ieee.Fits.{core, round_is, two, two-le_pos, down_pos}
use lib.Ieee.Exact.{HasValue}
use lib.Ieee.Nearest.{closest, closest_same, closest_mono}
use lib.Ieee.Scale.{round_same}
use Rattle.floats.specs.Narrow.{narrow}
use Rattle.roots.specs.Steps.{Packable}
use Rattle.roots.specs.Laws.Neighbours.{joined, pow_lt_back}

-- `round` at a fraction that is q / 2 ^ by of 2 ^ k smallest values, where it drops k digits
pub round_at : (f : Format) (s : Bool) (num den q by k : ℕ) → 0 < den → size (num * 2 ^ low f / den) - prec f ≡ k
    → num * 2 ^ low f * 2 ^ by ≡ q * (den * 2 ^ k) → round f s num den ≡ units f s (closest q (2 ^ by)) k
round_at f s num den q by k D drop same =
    round_is f s num den
    ∙ ap (λ (j : ℕ). core f s (num * 2 ^ low f) den j) drop
    ∙ ap (λ (w : ℕ). units f s w k) (closest_same (num * 2 ^ low f) (den * 2 ^ k) q (2 ^ by) (mul-pos D (pow_pos k)) (pow_pos by) same)

-- ---- digits

drops : (p n d : ℕ) → 0 < p → n < 2 ^ (p + d) → (0 < d → 2 ^ (p - 1 + d) ≤ n) → size n - p ≡ d
drops p n zero P hi lo = none (size n) (size-le n (p + 0) hi)
  where
    none : (z : ℕ) → z ≤ p + 0 → z - p ≡ 0
    none z h = omega arith
drops p n (suc d) P hi lo = all (size n) (size-le n (p + suc d) hi) (pow_lt_back (p - 1 + suc d) (size n) n (lo (zero-lt-suc d)) (size-lt n))
  where
    all : (z : ℕ) → z ≤ p + suc d → p - 1 + suc d < z → z - p ≡ suc d
    all z a b = omega arith

module _ (f : Format) (q k l by d : ℕ) (level : by + (k + low f) ≡ l + d) (small : q < 2 ^ (prec f + by)) (full : 0 < d → 2 ^ (prec f - 1 + by) ≤ q) where
  sums : (p n : ℕ) → by + n ≡ l + d → p + by + n ≡ p + d + l
  sums p n e = omega arith

  -- q * 2 ^ (k + low) is the fraction in the format's smallest values, times 2 ^ l
  below : q * 2 ^ k * 2 ^ low f < 2 ^ (prec f + d) * 2 ^ l
  below =
      lt_of_lt_of_le (subst (λ (x : ℕ). x < 2 ^ (prec f + by + (k + low f))) (sym (joined q k (low f) (k + low f) refl)) (shl_lt (prec f + by) (k + low f) small))
      (le_of_eq (ap (λ (x : ℕ). 2 ^ x) (sums (prec f) (k + low f) level) ∙ pow-add 2 (prec f + d) l))

  reached : 0 < d → 2 ^ (prec f - 1 + d) * 2 ^ l ≤ q * 2 ^ k * 2 ^ low f
  reached h =
      le_trans (le_of_eq (sym (pow-add 2 (prec f - 1 + d) l) ∙ ap (λ (x : ℕ). 2 ^ x) (sym (sums (prec f - 1) (k + low f) level)) ∙ pow-add 2 (prec f - 1 + by) (k + low f)))
      (le_trans (mul-le-mul_right (2 ^ (k + low f)) (full h)) (le_of_eq (sym (joined q k (low f) (k + low f) refl))))

  same : q * 2 ^ k * 2 ^ low f * 2 ^ by ≡ q * (2 ^ l * 2 ^ d)
  same = ap (λ (x : ℕ). x * 2 ^ by) (joined q k (low f) (k + low f) refl) ∙ joined q (k + low f) by (l + d) (add_comm (k + low f) by ∙ level) ∙ ap (λ (x : ℕ). q * x) (pow-add 2 l d)

  pub round_shift : (s : Bool) → round f s (q * 2 ^ k) (2 ^ l) ≡ units f s (closest q (2 ^ by)) d
  round_shift s =
      round_at f s (q * 2 ^ k) (2 ^ l) q by d (pow_pos l)
      (drops (prec f) (q * 2 ^ k * 2 ^ low f / 2 ^ l) d (two-le_pos (prec f) (two f)) ((div-lt_iff_lt-mul (pow_pos l)).1 below) (λ (h : 0 < d). (le-div_iff_mul-le (pow_pos l)).1 (reached h)))
      same

-- ---- from binary64 to binary32: 925 binary places lie between their smallest values, and a full significand drops 29 digits

-- 2 ^ 24 is one digit more than the format has, and 2 ^ 23 with one more dropped is the same
carry : (s : Bool) (k : ℕ) → units binary32 s (2 ^ 23) (k + 1) ≡ units binary32 s (2 ^ 24) k
unfolding units odd count_trailing_zeros
carry s k =
    ap (λ (n : ℕ). cond (ltb n (2 ^ 277)) (fin s 1 (minus (k + 1 + 23) 149)) (inf s)) (sym (joined (2 ^ 23) 1 k (k + 1) (add_comm 1 k)))
    ∙ ap (λ (n : ℕ). cond (ltb (2 ^ 24 * 2 ^ k) (2 ^ 277)) (fin s 1 (minus n 149)) (inf s)) (sums k)
  where
    sums : (n : ℕ) → n + 1 + 23 ≡ n + 24
    sums n = omega arith

-- a carry has made q one digit longer than the format, and it drops as many as a shorter one
carried : (s : Bool) (k d : ℕ) → k ≡ 896 + d → round binary32 s (2 ^ 53 * 2 ^ k) (2 ^ 1074) ≡ units binary32 s (2 ^ 24) d
carried s k d e =
    ap (λ (n : ℕ). round binary32 s n (2 ^ 1074)) (joined (2 ^ 52) 1 k (k + 1) (add_comm 1 k))
    ∙ round_shift binary32 (2 ^ 52) (k + 1) 1074 29 (d + 1) (omega arith) (lit< tt) (λ (h : 0 < d + 1). le_refl (2 ^ 52)) s
    ∙ carry s d

module _ (q k by d : ℕ) (packed : Packable binary64 q k) (dropped : d ≡ k - 896) (shifted : by + k ≡ 925 + d) where
  some : 0 < d → 0 < k
  some h = omega arith

  at_most : 0 < d → by ≤ 29
  at_most h = omega arith

  at_least : 29 ≤ by
  at_least = omega arith

  pub narrow_packable : Packable binary32 (closest q (2 ^ by)) d
  narrow_packable = record {
    small = closest_mono q (2 ^ by) (2 ^ 53) (2 ^ 29) (pow_pos by) (pow_pos 29) (mul-le-mul packed.small (pow_mono at_least));
    full = λ (h : 0 < d). closest_mono (2 ^ 52) (2 ^ 29) q (2 ^ by) (pow_pos 29) (pow_pos by) (mul-le-mul (packed.full (some h)) (pow_mono (at_most h)));
  }

  pub narrow_units : (s : Bool) → round binary32 s (q * 2 ^ k) (2 ^ 1074) ≡ units binary32 s (closest q (2 ^ by)) d
  narrow_units s = go (eq-or-lt_of_le packed.small) (eq-or-lt_of_le at_least)
    where
      by_shift : q < 2 ^ (24 + by) → round binary32 s (q * 2 ^ k) (2 ^ 1074) ≡ units binary32 s (closest q (2 ^ by)) d
      by_shift h = round_shift binary32 q k 1074 by d (omega arith) h (λ (g : 0 < d). let m : 23 + by ≤ 52 = omega arith in le_trans (pow_mono m) (packed.full (some g))) s

      go : (q ≡ 2 ^ 53) ⊎ (q < 2 ^ 53) → (29 ≡ by) ⊎ (29 < by) → round binary32 s (q * 2 ^ k) (2 ^ 1074) ≡ units binary32 s (closest q (2 ^ by)) d
      go (inr l) b = let h : 53 ≤ 24 + by = omega arith in by_shift (lt_of_lt_of_le l (pow_mono h))
      go (inl e) (inr l) = let h : 53 < 24 + by = omega arith in by_shift (subst (λ (n : ℕ). n < 2 ^ (24 + by)) (sym e) (pow-lt h))
      go (inl e) (inl b) =
          ap (λ (n : ℕ). round binary32 s (n * 2 ^ k) (2 ^ 1074)) e
          ∙ carried s k d (omega arith)
          ∙ ap (λ (n : ℕ). units binary32 s (closest (2 ^ 53) (2 ^ n)) d) b
          ∙ ap (λ (n : ℕ). units binary32 s (closest n (2 ^ by)) d) (sym e)

-- ---- `narrow` sees only the value

pub narrow_value : (x : Float) (s : Bool) (a c : ℕ) → 0 < c → HasValue x s a c → narrow x ≡ round binary32 s a c
unfolding narrow
narrow_value nan s a c C h = absurd h
narrow_value (inf t) s a c C h = absurd h
narrow_value (fin t m e) s a c C h =
    ap (λ (b : Bool). round binary32 b (m * up e) (down e)) h.0 ∙ round_same binary32 s (m * up e) (down e) a c (down_pos e) C h.1
