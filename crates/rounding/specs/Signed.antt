-- A finite value is the fraction (plus − minus) / den, one of plus and minus being 0, so the order of two is one of naturals.
-- A sum or a product of two is such a fraction, rounded. A zero may have either sign there, which is nothing to the order: so the rules for signs are met here alone.
use Rattle.std.specs.Prelude.{ℕ, zero, suc, ◌-◌, ◌^◌, ◌+◌, ◌*◌, ◌≤◌, ◌<◌, ◌≡◌, refl, Bool, true, false, not, cond, ltb, ℤ, pos, Float}
use Rattle.std.specs.Bool.{passes}
use Rattle.std.specs.Float.{nan, inf, fin, Format, binary32, binary64}
use Rattle.std.specs.Float.Ieee.{le, lt, neg, add, mul, sum, round, up, down, prec, emax, low, units, odd}
use Rattle.std.specs.Float.Ieee.Bits.{is_true}
use Rattle.std.specs.Float.Ieee.Fits.{round_is}
use Rattle.std.specs.Float.Ieee.Order.{round_mono}
use Rattle.std.specs.Float.Ieee.Positive.{den}
use Rattle.std.specs.Float.Ieee.Scale.{finite, round_same}
use Rattle.std.specs.Float.Order as Std
use Rattle.std.proofs.lemmas.Bool.{false≢true, cond_both}
use Rattle.std.proofs.Common.{sym, ap, ap₂, ◌∙◌, arith, ltb-true, ltb-false, lt-ltb, le_of_mul-le-mul_right}
use Rattle.rounding.specs.Order.{le_lt, le_trans, le_neg}

-- ---- finite values

-- a finite value, to match on
pub data Number : Float → Type 0 where
  number : (s : Bool) (m : ℕ) (e : ℤ) → Number (fin s m e)

pub number_of : (x : Float) → finite x ≡ true → Number x
number_of nan h = absurd (false≢true h)
number_of (inf s) h = absurd (false≢true h)
number_of (fin s m e) h = number s m e

abbrev pub plus : Float → ℕ
plus nan = 0
plus (inf s) = 0
plus (fin s m e) = cond s 0 (m * up e)

abbrev pub minus : Float → ℕ
minus nan = 0
minus (inf s) = 0
minus (fin s m e) = cond s (m * up e) 0

lt_of_fractions : {x y : Float} → Number x → Number y → plus x * den y + minus y * den x < plus y * den x + minus x * den y → lt x y ≡ true
unfolding lt
lt_of_fractions (number false m e) (number false n d) h = lt-ltb _ _ (omega arith)
lt_of_fractions (number false m e) (number true n d) h = absurd (omega arith)
lt_of_fractions (number true m e) (number false n d) h = lt-ltb 0 _ (omega arith)
lt_of_fractions (number true m e) (number true n d) h = lt-ltb _ _ (omega arith)

pub fractions_of_le : {x y : Float} → Number x → Number y → le x y ≡ true
    → plus x * den y + minus y * den x ≤ plus y * den x + minus x * den y
fractions_of_le {x} {y} X Y h =
    let no : ¬ (plus y * den x + minus x * den y < plus x * den y + minus y * den x) = λ l.
    Std.lt_irrefl x (passes _ (le_lt x y x h (lt_of_fractions Y X l))) in
    omega (arith, no)

-- ---- rounded fractions

-- x is (p − n) / d, rounded
pub data Rounded (f : Format) (x : Float) (p n d : ℕ) : Type 0 where
  above : (a : ℕ) → p ≡ n + a → x ≡ round f false a d → Rounded f x p n d
  under : (a : ℕ) → n ≡ p + a → x ≡ round f true a d → Rounded f x p n d

-- the sign goes through `round`
odd_neg : (d q k l : ℕ) → odd d true q k l ≡ neg (odd d false q k l)
unfolding odd neg
odd_neg d zero k l = refl
odd_neg d (suc q) k l = refl

units_neg : (f : Format) (q k : ℕ) → units f true q k ≡ neg (units f false q k)
unfolding units neg
units_neg f q k = go (ltb (q * 2 ^ k) (2 ^ (low f + suc (emax f))))
  where
    go : (b : Bool) → cond b (odd (suc (prec f)) true q k (low f)) (inf true) ≡ neg (cond b (odd (suc (prec f)) false q k (low f)) (inf false))
    go true = odd_neg (suc (prec f)) q k (low f)
    go false = refl

round_neg : (f : Format) (a d : ℕ) → round f true a d ≡ neg (round f false a d)
round_neg f a d = round_is f true a d ∙ units_neg f _ _ ∙ ap neg (sym (round_is f false a d))

-- of two fractions the larger rounds to no less, and below 0 to no more
rises : (f : Format) (a b c d : ℕ) → 0 < b → 0 < d → a * d ≤ c * b → le (round f false a b) (round f false c d) ≡ true
rises f a b c d B D h = is_true _ (round_mono f a b c d B D h)

falls : (f : Format) (a b c d : ℕ) → 0 < b → 0 < d → a * d ≤ c * b → le (round f true c d) (round f true a b) ≡ true
falls f a b c d B D h = rw (round_neg f c d, round_neg f a b) (le_neg _ _ (rises f a b c d B D h))

-- zero stands between, and its two signs are equal
zero_is : (f : Format) (s : Bool) (d : ℕ) → 0 < d → round f s 0 d ≡ fin s 0 (pos 0)
unfolding round
zero_is f s d D = round_same f s 0 d 0 1 D (omega arith) (omega arith) ∙ go f s
  where
    go : (f : Format) (s : Bool) → round f s 0 1 ≡ fin s 0 (pos 0)
    go binary32 false = refl
    go binary32 true = refl
    go binary64 false = refl
    go binary64 true = refl

not_below : (f : Format) (a d : ℕ) → 0 < d → le (fin false 0 (pos 0)) (round f false a d) ≡ true
not_below f a d D = rw (zero_is f false 1 (omega arith)) at (rises f 0 1 a d (omega arith) D (omega arith))

not_above : (f : Format) (a d : ℕ) → 0 < d → le (round f true a d) (fin true 0 (pos 0)) ≡ true
not_above f a d D = rw (zero_is f true 1 (omega arith)) at (falls f 0 1 a d (omega arith) D (omega arith))

zeros : (s : Bool) → le (fin s 0 (pos 0)) (fin (not s) 0 (pos 0)) ≡ true
unfolding le
zeros true = refl
zeros false = refl

module _ {f : Format} {x y : Float} {p n d p' n' d' : ℕ} where
  pub rounded_mono : Rounded f x p n d → Rounded f y p' n' d' → 0 < d → 0 < d'
      → p * d' + n' * d ≤ p' * d + n * d' → le x y ≡ true
  rounded_mono (above a e u) (above b i v) D D' h = rw (u, v) (rises f a d b d' D D' (omega (arith, h, ap (◌* d') e, ap (◌* d) i)))
  rounded_mono (under a e u) (under b i v) D D' h = rw (u, v) (falls f b d' a d D' D (omega (arith, h, ap (◌* d') e, ap (◌* d) i)))
  rounded_mono (under a e u) (above b i v) D D' h = rw (u, v) (le_trans _ _ _ (not_above f a d D) (le_trans _ _ _ (zeros true) (not_below f b d' D')))
  rounded_mono (above a e u) (under b i v) D D' h =
      let none : a * d' + b * d ≤ 0 = omega (arith, h, ap (◌* d') e, ap (◌* d) i) in
      let no_a : a ≤ 0 = le_of_mul-le-mul_right {k = d'} (omega arith) D' in
      let no_b : b ≤ 0 = le_of_mul-le-mul_right {k = d} (omega arith) D in
      let a_is : a ≡ 0 = omega arith in
      let b_is : b ≡ 0 = omega arith in
      rw (u, v, a_is, b_is, zero_is f false d D, zero_is f true d' D') (zeros false)

-- ---- sums and products

sum_rounded : (f : Format) (s t : Bool) (a b c p n : ℕ) → p ≡ cond s 0 a + cond t 0 b → n ≡ cond s a 0 + cond t b 0
    → Rounded f (sum f s a t b c) p n c
unfolding sum
sum_rounded f false false a b c p n e i = above (a + b) (omega arith) refl
sum_rounded f true true a b c p n e i = under (a + b) (omega arith) refl
sum_rounded f false true a b c p n e i =
    cond_both (ltb a b) _ _ (λ x. Rounded f x p n c)
    (λ l. under (b - a) (omega (arith, ltb-true a b l)) refl) (λ l. above (a - b) (omega (arith, ltb-false a b l)) refl)
sum_rounded f true false a b c p n e i =
    cond_both (ltb a b) _ _ (λ x. Rounded f x p n c)
    (λ l. above (b - a) (omega (arith, ltb-true a b l)) refl) (λ l. go (ltb-false a b l) (ltb b a) refl)
  where
    go : b ≤ a → (g : Bool) → ltb b a ≡ g → Rounded f (round f g (a - b) c) p n c
    go h true l = under (a - b) (omega arith) refl
    go h false l = above (a - b) (omega (arith, ltb-false b a l)) refl

scaled : (s : Bool) (a d : ℕ) → (cond s 0 a * d ≡ cond s 0 (a * d)) × (cond s a 0 * d ≡ cond s (a * d) 0)
scaled true a d = omega arith
scaled false a d = omega arith

pub add_rounded : (f : Format) {x y : Float} → Number x → Number y
    → Rounded f (add f x y) (plus x * den y + plus y * den x) (minus x * den y + minus y * den x) (den x * den y)
unfolding add
add_rounded f (number s m e) (number t n d) =
    let u = scaled s (m * up e) (down d) in
    let v = scaled t (n * up d) (down e) in
    sum_rounded f s t (m * up e * down d) (n * up d * down e) (down e * down d) _ _ (ap₂ ◌+◌ u.0 v.0) (ap₂ ◌+◌ u.1 v.1)

pub mul_rounded : (f : Format) {x y : Float} → Number x → Number y
    → Rounded f (mul f x y) (plus x * plus y + minus x * minus y) (plus x * minus y + minus x * plus y) (den x * den y)
unfolding mul
mul_rounded f (number false m e) (number false n d) = above (m * up e * (n * up d)) (omega arith) refl
mul_rounded f (number false m e) (number true n d) = under (m * up e * (n * up d)) (omega arith) refl
mul_rounded f (number true m e) (number false n d) = under (m * up e * (n * up d)) (omega arith) refl
mul_rounded f (number true m e) (number true n d) = above (m * up e * (n * up d)) (omega arith) refl
