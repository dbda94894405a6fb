-- The root by the fields of a value's pattern b, as `sqrt_f32` and `sqrt_f64` read it. Assumes nothing.
use mathlib.Core.Path.{◌≡◌, refl, sym, ap, ◌∙◌, subst}
use mathlib.Core.Bool.{Bool, true, false, not, cond, true≢false}
use Prim.Native.Nat.{ℕ, zero, suc, ◌+◌, ◌-◌, ◌*◌, ◌/◌, ◌%◌, ◌^◌, ◌≤◌, ◌<◌}
use native.Mathlib.Nat.{mul-suc, mul_comm, mul-pos, mul-div_cancel, zero-mul, zero-div, zero-mod, mod_self, mod-eq_of_lt, zero-lt-suc, zero-add, add-zero, one-mul, le_refl, suc-mul, div-lt_iff_lt-mul, div-mul-le_self, lt_of_le_of_lt, lt_of_lt_of_le, lt_irrefl, mod-mod_of_dvd, dvd-mul_right, eq-zero-or-pos}
use mathlib.Core.Logic.{inl, inr, ⊎_elim}
use native.Mathlib.Omega.{arith}
use borrow.Author.Tests.{le-leb, lt-ltb}
use lib.Dec.{T, leb, ltb, eqb, lt→ltb}
use lib.IntN.{ℤ, pos}
use lib.Pow.{pow_pos, pow_mono, shl_lt}
use lib.Ieee.{Float, nan, inf, fin, Format, prec, emax, low, up, down, size, odd, hid, ones, top, fits, is_nan, of_fields, of_bits, to_bits}
use lib.Ieee.Fits.{two, reach, down_pos}
use lib.Ieee.Exact.{HasValue, units_val}
use lib.Ieee.Bits.{of_bits-to_bits, nan_bits_is, nan_bits_above}
use lib.Ieee.Digits.{size-le}
use lib.Ieee.Positive.{positive}
use Rattle.roots.specs.Root.{root, root_units}
use Rattle.roots.specs.Steps.{Packable, Positive, Rootable}
use Rattle.roots.specs.Laws.Neighbours.{low_or_high, twice}
use Rattle.roots.specs.Laws.Pattern.{packed, to_bits_value}

-- ---- the root by a value's sign and size

pub root_nan : (f : Format) → root f nan ≡ nan
unfolding root
root_nan f = refl

first_pos : (m u : ℕ) → 0 < m * u → 0 < m
first_pos m u h = elim (eq-zero-or-pos m) [ inl z ↦ absurd (lt_irrefl 0 (subst (λ (k : ℕ). 0 < k) (ap (λ (k : ℕ). k * u) z ∙ zero-mul u) h)) | inr p ↦ p ]

-- its digits are not 0
some : (m : ℕ) (e : ℤ) (a c : ℕ) → 0 < a → m * up e * c ≡ a * down e → 0 < m
some m e a c A h = first_pos m (up e) (first_pos (m * up e) c (subst (λ (x : ℕ). 0 < x) (sym h) (mul-pos A (down_pos e))))

pub root_positive : (f : Format) (x : Float) (n : ℕ) → 0 < n → HasValue x false n (2 ^ low f) → root_units f n ≡ root f x
unfolding root
root_positive f (fin false (suc m) e) n N (p, h) = ap (root_units f) (sym (ap (λ (x : ℕ). x / down e) h ∙ mul-div_cancel n (down_pos e)))
root_positive f (fin s zero e) n N (p, h) = absurd (lt_irrefl 0 (some zero e n (2 ^ low f) N h))
root_positive f (fin true (suc m) e) n N (p, h) = absurd (true≢false p)
root_positive f nan n N h = absurd h
root_positive f (inf s) n N h = absurd h

-- ---- signs and zeros

abbrev pub minus : Float → Bool
minus nan = false
minus (inf s) = s
minus (fin s m e) = s

fields_minus : (f : Format) (s : Bool) (y t : ℕ) → T (not (is_nan (of_fields f s y t))) → minus (of_fields f s y t) ≡ s
unfolding of_fields odd is_nan
fields_minus f s zero zero n = refl
fields_minus f s zero (suc t) n = refl
fields_minus f s (suc y) t n = go (eqb (suc y) (ones f)) (eqb t 0) (hid f + t) n
  where
    go : (b c : Bool) (q : ℕ) → T (not (is_nan (cond b (cond c (inf s) nan) (odd (prec f) s q y (low f))))) → minus (cond b (cond c (inf s) nan) (odd (prec f) s q y (low f))) ≡ s
    go true true q n = refl
    go true false q n = absurd n
    go false c zero n = refl
    go false c (suc q) n = refl

zero_bits : (f : Format) (s : Bool) (e : ℤ) → to_bits f (fin s 0 e) ≡ cond s (top f) 0
zero_bits f s e =
    to_bits_value f (fin s 0 e) s 0 (refl, ap (λ (x : ℕ). x * 2 ^ low f) (zero-mul (up e)) ∙ zero-mul (2 ^ low f) ∙ sym (zero-mul (down e)))
    ∙ ap (λ (x : ℕ). cond s (top f) 0 + x) (ap (λ (j : ℕ). j * hid f + 0 / 2 ^ j) none ∙ omega (arith, zero-mul (hid f)))
    ∙ add-zero (cond s (top f) 0)
  where
    none : size 0 - prec f ≡ 0
    none = omega (arith, size-le 0 0 (pow_pos 0))

root_below_zero : (f : Format) (v : Float) → T (not (is_nan v)) → minus v ≡ true → ((s : Bool) (e : ℤ) → v ≡ fin s 0 e → ⊥) → nan ≡ root f v
unfolding root is_nan
root_below_zero f nan n m z = absurd n
root_below_zero f (inf true) n m z = refl
root_below_zero f (inf false) n m z = absurd (true≢false (sym m))
root_below_zero f (fin s zero e) n m z = absurd (z s e refl)
root_below_zero f (fin true (suc k) e) n m z = refl
root_below_zero f (fin false (suc k) e) n m z = absurd (true≢false (sym m))

pub positive_by_pattern : (f : Format) (v : Float) → 0 < to_bits f v → to_bits f v < ones f * hid f → T (positive v)
unfolding to_bits
positive_by_pattern f nan l h = absurd (omega arith)
positive_by_pattern f (inf true) l h = absurd (omega arith)
positive_by_pattern f (inf false) l h = absurd (omega arith)
positive_by_pattern f (fin true m e) l h = absurd (omega (arith, mul-suc (hid f) (ones f), mul_comm (hid f) (ones f)))
positive_by_pattern f (fin false zero e) l h = absurd (lt_irrefl 0 (subst (λ (x : ℕ). 0 < x) (zero_bits f false e) l))
positive_by_pattern f (fin false (suc m) e) l h = lt→ltb 0 (suc m) (zero-lt-suc m)

-- ---- the root by the pattern

-- a positive number's pattern is that of q * 2 ^ k units
pub root-of-pattern : (f : Format) (q k : ℕ) → Packable f q k → 0 < q → q < 2 ^ prec f → k < 2 * emax f → root_units f (q * 2 ^ k) ≡ root f (of_bits f (k * hid f + q))
root-of-pattern f q k able Q small K =
    root_positive f (of_bits f (k * hid f + q)) (q * 2 ^ k) (mul-pos Q (pow_pos k))
    (subst (λ (v : Float). HasValue v false (q * 2 ^ k) (2 ^ low f)) (sym (ap (of_bits f) (sym (zero-add (k * hid f + q))) ∙ (packed f q k able false 0 (k * hid f + q) (inr (refl, refl)) (inl (K, refl))).is))
    (units_val f false q k (lt_of_lt_of_le (shl_lt (prec f) k small) (pow_mono {i = prec f + k} {j = low f + suc (emax f)} (omega (arith, two f))))))

module _ (f : Format) (x : Float) (fit : T (fits f x)) where
  abbrev b : ℕ
  b = to_bits f x

  -- ---- a zero

  as_fields : (s : Bool) → leb (top f) b ≡ s → x ≡ of_fields f s (b % top f / hid f) (b % hid f)
  unfolding of_bits
  as_fields s e = sym (of_bits-to_bits f x fit) ∙ ap (λ (t : Bool). of_fields f t (b % top f / hid f) (b % hid f)) e

  pub root-zero : b % top f ≡ 0 → x ≡ root f x
  unfolding root of_fields odd
  root-zero h = at_zero (leb (top f) b) refl
    where
      at_zero : (s : Bool) → leb (top f) b ≡ s → x ≡ root f x
      at_zero s e =
          let z : x ≡ fin s 0 (pos 0) =
          as_fields s e
          ∙ ap (λ (y : ℕ). of_fields f s y (b % hid f)) (ap (λ (y : ℕ). y / hid f) h ∙ zero-div (hid f))
          ∙ ap (λ (t : ℕ). of_fields f s 0 t) (sym (mod-mod_of_dvd (hid f) b (dvd-mul_right (hid f) (suc (ones f)))) ∙ ap (λ (y : ℕ). y % hid f) h ∙ zero-mod (hid f)) in
          z ∙ sym (ap (root f) z)

  -- ---- an infinity

  pub root_infinite : b ≡ ones f * hid f → x ≡ root f x
  unfolding root to_bits
  root_infinite h =
      let i : x ≡ inf false = sym (of_bits-to_bits f x fit) ∙ ap (of_bits f) (h ∙ sym (zero-add (ones f * hid f))) ∙ of_bits-to_bits f (inf false) (unfold fits in tt) in
      i ∙ sym (ap (root f) i)

  -- ---- below zero: beyond the infinity's pattern, and no NaN's

  pub root-minus : T (not (is_nan x)) → (b % top f ≡ 0 → ⊥) → ones f * hid f < b → nan ≡ root f x
  root-minus n h l = root_below_zero f x n signed (λ s e z. h (ap (λ (y : ℕ). y % top f) (ap (to_bits f) z ∙ zero_bits f s e) ∙ none s))
    where
      none : (s : Bool) → cond s (top f) 0 % top f ≡ 0
      none true = mod_self (top f)
      none false = zero-mod (top f)

      past : top f ≤ b
      past = ⊎_elim (λ (m : b < top f). absurd (is_nan_lem m)) (λ m. m) (low_or_high b (top f))
        where
          is_nan_lem : b < top f → ⊥
          is_nan_lem m =
              let e : is_nan x ≡ true =
              ap is_nan (sym (of_bits-to_bits f x fit)) ∙ sym (nan_bits_is f b) ∙ nan_bits_above f b ∙ ap (ltb (ones f * hid f)) (mod-eq_of_lt m) ∙ lt-ltb (ones f * hid f) b l in
              subst (λ (t : Bool). T (not t)) e n

      signed : minus x ≡ true
      signed =
          let e : x ≡ of_fields f true (b % top f / hid f) (b % hid f) = as_fields true (le-leb (top f) b past) in
          ap minus e ∙ fields_minus f true (b % top f / hid f) (b % hid f) (subst (λ (v : Float). T (not (is_nan v))) e n)

-- ---- a positive number's pattern taken apart: b is k * 2 ^ (p - 1) + q

none_whole : (b h : ℕ) → 0 < h → b / h ≡ 0 → b < h
none_whole b h above e = subst (λ (x : ℕ). b < x) (one-mul h) ((div-lt_iff_lt-mul {x = b} {y = 1} above).0 (omega arith))

pub low_rootable : (b p l : ℕ) → Positive b p l → b / 2 ^ (p - 1) ≡ 0 → Rootable b 0 p l
low_rootable b p l able e = record {
  some = able.some;
  small = omega (arith, none_whole b (2 ^ (p - 1)) (pow_pos (p - 1)) e, twice p (p - 1) (omega (arith, able.hidden)));
  exponent = omega arith;
  digits = able.digits;
  least = able.least;
  apart = able.apart;
}

module _ (b h : ℕ) (above : 0 < h) (some : b / h ≡ 0 → ⊥) where
  abbrev k : ℕ
  k = b / h - 1

  abbrev pub q : ℕ
  q = b - k * h

  last : b < k * h + h + h
  last =
      let y : b / h ≡ suc k = omega arith in
      let u : b < suc (b / h) * h = (div-lt_iff_lt-mul above).0 (le_refl (suc (b / h))) in
      let e : suc (b / h) * h ≡ b / h * h + h = suc-mul (b / h) h in
      let g : b / h * h ≡ k * h + h = ap (λ (x : ℕ). x * h) y ∙ suc-mul k h in
      omega arith

  pub first : k * h + h ≤ b
  first =
      let y : b / h ≡ suc k = omega arith in
      let g : b / h * h ≡ k * h + h = ap (λ (x : ℕ). x * h) y ∙ suc-mul k h in
      omega (arith, div-mul-le_self b h)

  pub shifted : b < 2 ^ 64 → k * h % 2 ^ 64 ≡ k * h
  shifted l = mod-eq_of_lt (lt_of_le_of_lt (omega (arith, first)) l)

pub high_rootable : (b p l : ℕ) (able : Positive b p l) (some : b / 2 ^ (p - 1) ≡ 0 → ⊥) → Rootable (q b (2 ^ (p - 1)) (pow_pos (p - 1)) some) (b / 2 ^ (p - 1) - 1) p l
high_rootable b p l able some = record {
  some = omega (arith, first b (2 ^ (p - 1)) (pow_pos (p - 1)) some, pow_pos (p - 1));
  small = omega (arith, last b (2 ^ (p - 1)) (pow_pos (p - 1)) some, twice p (p - 1) (omega (arith, able.hidden)), pow_pos (p - 1));
  exponent = omega (arith, able.field);
  digits = able.digits;
  least = able.least;
  apart = able.apart;
}

module _ (f : Format) (b : ℕ) where
  full_digit : 2 ^ prec f ≡ 2 * hid f
  full_digit = twice (prec f) (prec f - 1) (omega (arith, two f))

  pub low_root : 0 < b → b / hid f ≡ 0 → root_units f (b * 2 ^ 0) ≡ root f (of_bits f b)
  low_root l e =
      let s : b < hid f = none_whole b (hid f) (pow_pos (prec f - 1)) e in
      root-of-pattern f b 0 (record { small = omega (arith, full_digit); full = λ h. absurd (lt_irrefl 0 h) }) l (omega (arith, full_digit)) (omega (arith, reach f, two f))
      ∙ ap (λ (x : ℕ). root f (of_bits f x)) (omega (arith, zero-mul (hid f)))

  module _ (some : b / hid f ≡ 0 → ⊥) (below : b < ones f * hid f) where
    pub field_below : b / hid f - 1 < 2 * emax f
    field_below = omega (arith, (div-lt_iff_lt-mul {x = b} {y = ones f} (pow_pos (prec f - 1))).1 below)

    pub high_root : root_units f ((b - (b / hid f - 1) * hid f) * 2 ^ (b / hid f - 1)) ≡ root f (of_bits f b)
    high_root =
        let u : (b / hid f - 1) * hid f + hid f ≤ b = first b (hid f) (pow_pos (prec f - 1)) some in
        let v : b < (b / hid f - 1) * hid f + hid f + hid f = last b (hid f) (pow_pos (prec f - 1)) some in
        root-of-pattern f (b - (b / hid f - 1) * hid f) (b / hid f - 1) (record { small = omega (arith, full_digit); full = λ h. omega arith }) (omega (arith, pow_pos (prec f - 1))) (omega (arith, full_digit)) field_below
        ∙ ap (λ (x : ℕ). root f (of_bits f x)) (omega arith)
