-- What an f64 is, by the fields of its pattern b: the value of the significand and exponent that pack to b.
use Rattle.std.proofs.Common.{◌≡◌, ℕ, ◌+◌, ◌-◌, ◌*◌, ◌/◌, ◌%◌, ◌^◌, ◌<◌, ◌≤◌, Bool, true, false, cond, not, T, leb, ◌⊎◌, sym, refl, ap, ◌∙◌, subst, inl, inr, lt_of_lt_of_le, arith, leb→le, pow_mono, shl_lt, ltb-false}
use lib.Dec.{nleb→lt}
use lib.Ieee.{Float, inf, binary64, units, fits, is_nan, of_bits, to_bits}
use lib.Ieee.Bits.{of_bits-to_bits, to_bits-lt, nan_bits_is, nan_bits_above, is_false}
use lib.Ieee.Exact.{HasValue, units_val}
use Rattle.roots.specs.Steps.{Packable}
use Rattle.roots.specs.Laws.Pattern.{packed}

module _ (x : Float) (held : T (fits binary64 x)) where
  abbrev b : ℕ
  b = to_bits binary64 x

  abbrev minus : Bool
  minus = leb (2 ^ 63) b

  abbrev field : ℕ
  field = b % 2 ^ 63 / 2 ^ 52

  abbrev digits : ℕ
  digits = b % 2 ^ 52

  with_sign : b ≡ cond minus (2 ^ 63) 0 + b % 2 ^ 63
  with_sign = go minus (leb→le (2 ^ 63) b) (nleb→lt (2 ^ 63) b) (to_bits-lt binary64 x held)
    where
      go : (s : Bool) → (T s → 2 ^ 63 ≤ b) → (T (not s) → b < 2 ^ 63) → b < 2 ^ 64 → b ≡ cond s (2 ^ 63) 0 + b % 2 ^ 63
      go true h k l = omega (arith, h tt)
      go false h k l = omega (arith, k tt)

  packs : (q k : ℕ) → Packable binary64 q k → ((k < 2046) × (b % 2 ^ 63 ≡ k * 2 ^ 52 + q)) ⊎ ((2046 ≤ k) × (b % 2 ^ 63 ≡ 2047 * 2 ^ 52)) → x ≡ units binary64 minus q k
  packs q k able e = sym (of_bits-to_bits binary64 x held) ∙ ap (of_bits binary64) with_sign ∙ (packed binary64 q k able minus (cond minus (2 ^ 63) 0) (b % 2 ^ 63) (picked minus) e).is
    where
      picked : (s : Bool) → ((s ≡ true) × (cond s (2 ^ 63) 0 ≡ 2 ^ 63)) ⊎ ((s ≡ false) × (cond s (2 ^ 63) 0 ≡ 0))
      picked true = inl (refl, refl)
      picked false = inr (refl, refl)

  value : (q k : ℕ) → Packable binary64 q k → q < 2 ^ 53 → k < 2046 → b % 2 ^ 63 ≡ k * 2 ^ 52 + q → HasValue x minus (q * 2 ^ k) (2 ^ 1074)
  value q k able few low e =
      let h : 53 + k ≤ 2098 = omega arith in
      subst (λ (v : Float). HasValue v minus (q * 2 ^ k) (2 ^ 1074)) (sym (packs q k able (inl (low, e))))
      (units_val binary64 minus q k (lt_of_lt_of_le (shl_lt 53 k few) (pow_mono h)))

  -- a subnormal or a zero
  pub low_value : field ≡ 0 → HasValue x minus (digits * 2 ^ 0) (2 ^ 1074)
  low_value e = value digits 0 (record { small = omega arith; full = λ h. omega arith }) (omega arith) (omega arith) (omega arith)

  -- a normal number
  pub mid_value : (field ≡ 0 → ⊥) → (field ≡ 2047 → ⊥) → HasValue x minus ((digits + 2 ^ 52) * 2 ^ (field - 1)) (2 ^ 1074)
  mid_value z o = value (digits + 2 ^ 52) (field - 1) (record { small = omega arith; full = λ h. omega arith }) (omega arith) (omega arith) (omega arith)

  -- an infinity
  pub top_value : T (not (is_nan x)) → field ≡ 2047 → x ≡ inf minus
  unfolding units
  top_value n o = packs (2 ^ 52) 2046 (record { small = omega arith; full = λ h. omega arith }) (inr (omega arith, omega (arith, no_more)))
    where
      no_more : b % 2 ^ 63 ≤ 2047 * 2 ^ 52
      no_more = ltb-false (2047 * 2 ^ 52) (b % 2 ^ 63) (sym (nan_bits_above binary64 b) ∙ nan_bits_is binary64 b ∙ ap is_nan (of_bits-to_bits binary64 x held) ∙ is_false (is_nan x) n)
