-- Bit patterns: what a value's size in units says of its pattern, that a value is its sign and size, and the pattern that a sign and q * 2 ^ k units pack to. Assumes nothing.
use Rattle.std.specs.Prelude.{◌≡◌, ◌⊎◌, Bool, not, ℕ, zero, suc, ◌+◌, ◌-◌, ◌*◌, ◌/◌, ◌^◌, ◌≤◌, ◌<◌, T, ltb, Float}
use Rattle.std.proofs.Math.Path.{refl, sym, ap}
use Rattle.std.proofs.Common.{ap₂, ◌∙◌, subst, inl, inr, le_refl, le_trans, le_of_eq, lt_of_lt_of_le, lt_of_le_of_lt, eq-or-lt_of_le, mul-le-mul_right, le_of_mul-le-mul_right, mul-one, zero-add, add_assoc, add-mul, suc-mul, mul-div_cancel, arith, lt-ltb, le-ltb, ltb→lt, nltb→le, pow-add, pow_pos, pow_mono, shl_lt}
use Rattle.std.proofs.Math.Bool.{true, false, cond}
use Rattle.std.proofs.Math.Pow.{pow-lt}
use Rattle.std.specs.Float.{nan, inf, fin, Format}
use Rattle.std.specs.Float.Ieee.{prec, emax, low, down, size, odd, units, hid, ones, top, fits, is_nan, nan_bits, of_bits, to_bits}
use Rattle.std.specs.Float.Ieee.Digits.{size-le}
use Rattle.std.specs.Float.Ieee.Exact.{HasValue, odd_sign}
use Rattle.std.specs.Float.Ieee.Fits.{two, reach, down_pos, odd-fits}
use Rattle.std.specs.Float.Ieee.Bits.{of_bits-to_bits, to_bits-lt, nan_bits_is}
use Rattle.roots.specs.Steps.{Packable}
use Rattle.roots.specs.Laws.Neighbours.{twice, pow_lt_back, size_is}

-- ---- from a size to a pattern

-- the pattern, without its sign, of n units
abbrev pub code : Format → ℕ → ℕ
code f n = (size n - prec f) * hid f + n / 2 ^ (size n - prec f)

pub to_bits_value : (f : Format) (v : Float) (s : Bool) (n : ℕ) → HasValue v s n (2 ^ low f) → to_bits f v ≡ cond s (top f) 0 + code f n
unfolding to_bits
to_bits_value f (fin t m e) s n (p, h) =
    add_assoc (cond t (top f) 0) _ _
    ∙ ap (λ (x : ℕ). cond t (top f) 0 + code f x) (ap (λ (x : ℕ). x / down e) h ∙ mul-div_cancel n (down_pos e))
    ∙ ap (λ (b : Bool). cond b (top f) 0 + code f n) p
to_bits_value f nan s n h = absurd h
to_bits_value f (inf t) s n h = absurd h

-- a format has one value of a sign and a size
pub value_unique : (f : Format) (v w : Float) (s : Bool) (n : ℕ) → T (fits f v) → T (fits f w) → HasValue v s n (2 ^ low f) → HasValue w s n (2 ^ low f) → v ≡ w
value_unique f v w s n p q h k =
    sym (of_bits-to_bits f v p) ∙ ap (of_bits f) (to_bits_value f v s n h ∙ sym (to_bits_value f w s n k)) ∙ of_bits-to_bits f w q

-- ---- packing

pub units_fits : (f : Format) (s : Bool) (q k : ℕ) → q ≤ 2 ^ prec f → T (fits f (units f s q k))
unfolding units
units_fits f s q k a = go (ltb (q * 2 ^ k) (2 ^ (low f + suc (emax f)))) (ltb→lt (q * 2 ^ k) (2 ^ (low f + suc (emax f))))
  where
    go : (b : Bool) → (T b → q * 2 ^ k < 2 ^ (low f + suc (emax f))) → T (fits f (cond b (odd (suc (prec f)) s q k (low f)) (inf s)))
    go true h = odd-fits f (suc (prec f)) s q k (lt_of_le_of_lt a (pow-lt (le_refl (suc (prec f))))) a (h tt)
    go false h = unfold fits in tt

pub units_number : (f : Format) (s : Bool) (q k : ℕ) → is_nan (units f s q k) ≡ false
unfolding units is_nan odd
units_number f s q k = go (ltb (q * 2 ^ k) (2 ^ (low f + suc (emax f)))) q
  where
    go : (b : Bool) (q : ℕ) → is_nan (cond b (odd (suc (prec f)) s q k (low f)) (inf s)) ≡ false
    go true zero = refl
    go true (suc q) = refl
    go false q = refl

-- a pattern that stands for q * 2 ^ k units
pub record Packed (f : Format) (s : Bool) (q k bits : ℕ) : Type 0 where
  pub is : of_bits f bits ≡ units f s q k
  pub below : bits < 2 * top f
  pub number : nan_bits f bits ≡ false

module _ (f : Format) (q k : ℕ) (able : Packable f q k) where
  full_digit : 2 ^ prec f ≡ 2 * hid f
  full_digit = twice (prec f) (prec f - 1) (omega (arith, two f))

  -- q * 2 ^ k units: a carry, q = 2 ^ prec, is one more in the exponent's field
  code_is : code f (q * 2 ^ k) ≡ k * hid f + q
  code_is = elim (eq-or-lt_of_le able.small) [ inl e ↦ carried e | inr l ↦ plain k refl l ]
    where
      at : (j : ℕ) → size (q * 2 ^ k) - prec f ≡ j → (n : ℕ) → q * 2 ^ k ≡ n * 2 ^ j → j * hid f + n ≡ k * hid f + q → code f (q * 2 ^ k) ≡ k * hid f + q
      at j e n g h = ap (λ (x : ℕ). x * hid f + q * 2 ^ k / 2 ^ x) e ∙ ap (λ (x : ℕ). j * hid f + x / 2 ^ j) g ∙ ap (λ (x : ℕ). j * hid f + x) (mul-div_cancel n (pow_pos j)) ∙ h

      carried : q ≡ 2 ^ prec f → code f (q * 2 ^ k) ≡ k * hid f + q
      carried e =
          let g : q * 2 ^ k ≡ 2 ^ (prec f + k) = ap (λ (x : ℕ). x * 2 ^ k) e ∙ sym (pow-add 2 (prec f) k) in
          at (suc k)
          (ap (λ (x : ℕ). x - prec f) (ap size g ∙ size_is (2 ^ (prec f + k)) (prec f + k) (le_refl (2 ^ (prec f + k))) (pow-lt (le_refl (suc (prec f + k))))) ∙ omega arith)
          (hid f)
          (g ∙ ap (λ (x : ℕ). 2 ^ x) (omega (arith, two f)) ∙ pow-add 2 (prec f - 1) (suc k))
          (omega (arith, full_digit, suc-mul k (hid f)))

      plain : (j : ℕ) → j ≡ k → q < 2 ^ prec f → code f (q * 2 ^ k) ≡ k * hid f + q
      plain zero e l =
          at k
          (ap (λ (x : ℕ). size (q * 2 ^ x) - prec f) (sym e) ∙ ap (λ (x : ℕ). size x - prec f) (mul-one q) ∙ omega (arith, size-le q (prec f) l))
          q refl refl
      plain (suc j) e l =
          at k
          (ap (λ (x : ℕ). x - prec f)
          (size_is (q * 2 ^ k) (prec f - 1 + k) (le_trans (le_of_eq (pow-add 2 (prec f - 1) k)) (mul-le-mul_right (2 ^ k) (able.full (omega arith))))
          (lt_of_lt_of_le (shl_lt (prec f) k l) (pow_mono {i = prec f + k} {j = suc (prec f - 1 + k)} (omega (arith, two f)))))
          ∙ omega (arith, two f))
          q refl refl

  -- from 2 * emax dropped digits on, and at the last carry below, the value is an infinity
  abbrev limit : ℕ
  limit = 2 ^ (low f + suc (emax f))

  over : k < 2 * emax f → limit ≤ q * 2 ^ k → k * hid f + q ≡ ones f * hid f
  over h l =
      let a : low f + suc (emax f) < suc (prec f + k) =
      pow_lt_back (low f + suc (emax f)) (suc (prec f + k)) (q * 2 ^ k) l (lt_of_le_of_lt (le_trans (mul-le-mul_right (2 ^ k) able.small) (le_of_eq (sym (pow-add 2 (prec f) k)))) (pow-lt (le_refl (suc (prec f + k))))) in
      let e : low f + suc (emax f) ≡ prec f + k = omega (arith, two f) in
      let b : 2 ^ prec f ≤ q = le_of_mul-le-mul_right (le_trans (le_of_eq (sym (pow-add 2 (prec f) k) ∙ ap (λ (x : ℕ). 2 ^ x) (sym e))) l) (pow_pos k) in
      let c : k * hid f + 2 * hid f ≡ (k + 2) * hid f = sym (add-mul k 2 (hid f)) in
      let d : (k + 2) * hid f ≡ ones f * hid f = ap (λ (x : ℕ). x * hid f) (omega (arith, two f)) in
      omega (arith, able.small, full_digit)

  within : q * 2 ^ k < limit → k < 2 * emax f
  within h = go k refl
    where
      go : (j : ℕ) → j ≡ k → k < 2 * emax f
      go zero e = omega (arith, two f, reach f)
      go (suc j) e =
          omega (arith, two f, pow_lt_back (prec f - 1 + k) (low f + suc (emax f)) (q * 2 ^ k) (le_trans (le_of_eq (pow-add 2 (prec f - 1) k)) (mul-le-mul_right (2 ^ k) (able.full (omega arith)))) h)

  -- what is written
  abbrev pattern : Bool → ℕ
  pattern s = cond s (top f) 0 + cond (ltb k (2 * emax f)) (k * hid f + q) (ones f * hid f)

  written : (s : Bool) → to_bits f (units f s q k) ≡ pattern s
  unfolding units to_bits
  written s = go (ltb (q * 2 ^ k) limit) (ltb→lt (q * 2 ^ k) limit) (nltb→le (q * 2 ^ k) limit)
    where
      go : (b : Bool) → (T b → q * 2 ^ k < limit) → (T (not b) → limit ≤ q * 2 ^ k) → to_bits f (cond b (odd (suc (prec f)) s q k (low f)) (inf s)) ≡ pattern s
      go true h n =
          to_bits_value f (odd (suc (prec f)) s q k (low f)) s (q * 2 ^ k) (odd_sign (suc (prec f)) s q k (low f))
          ∙ ap (λ (x : ℕ). cond s (top f) 0 + x) (code_is ∙ sym (ap (λ (b : Bool). cond b (k * hid f + q) (ones f * hid f)) (lt-ltb k (2 * emax f) (within (h tt)))))
      go false h n = ap (λ (x : ℕ). cond s (top f) 0 + x) (sym (pick (ltb k (2 * emax f)) (ltb→lt k (2 * emax f))))
        where
          pick : (b : Bool) → (T b → k < 2 * emax f) → cond b (k * hid f + q) (ones f * hid f) ≡ ones f * hid f
          pick true l = over (l tt) (n tt)
          pick false l = refl

  pub units_bits : k < 2 * emax f → to_bits f (units f false q k) ≡ k * hid f + q
  units_bits h = written false ∙ zero-add _ ∙ ap (λ (t : Bool). cond t (k * hid f + q) (ones f * hid f)) (lt-ltb k (2 * emax f) h)

  -- the two choices by which it is made, of the sign and of the number without it
  pub packed : (s : Bool) (sign number : ℕ) → ((s ≡ true) × (sign ≡ top f)) ⊎ ((s ≡ false) × (sign ≡ 0))
      → ((k < 2 * emax f) × (number ≡ k * hid f + q)) ⊎ ((2 * emax f ≤ k) × (number ≡ ones f * hid f)) → Packed f s q k (sign + number)
  packed s sign number a b = subst (Packed f s q k) same (record { is = is; below = below; number = nan_bits_is f (pattern s) ∙ ap is_nan is ∙ units_number f s q k })
    where
      v : T (fits f (units f s q k))
      v = units_fits f s q k able.small

      is : of_bits f (pattern s) ≡ units f s q k
      is = ap (of_bits f) (sym (written s)) ∙ of_bits-to_bits f (units f s q k) v

      below : pattern s < 2 * top f
      below = subst (λ (x : ℕ). x < 2 * top f) (written s) (to_bits-lt f (units f s q k) v)

      signed : (t : Bool) → (s ≡ t) × (sign ≡ cond t (top f) 0) → cond s (top f) 0 ≡ sign
      signed t w = ap (λ (t : Bool). cond t (top f) 0) w.0 ∙ sym w.1

      numbered : (t : Bool) → ltb k (2 * emax f) ≡ t → number ≡ cond t (k * hid f + q) (ones f * hid f) → cond (ltb k (2 * emax f)) (k * hid f + q) (ones f * hid f) ≡ number
      numbered t e w = ap (λ (t : Bool). cond t (k * hid f + q) (ones f * hid f)) e ∙ sym w

      same : pattern s ≡ sign + number
      same =
          ap₂ (λ (x y : ℕ). x + y)
          (elim a [ inl w ↦ signed true w | inr w ↦ signed false w ])
          (elim b [ inl w ↦ numbered true (lt-ltb k (2 * emax f) w.0) w.1 | inr w ↦ numbered false (le-ltb k (2 * emax f) w.0) w.1 ])
