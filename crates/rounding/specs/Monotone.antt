-- Rounded sums, differences and products keep the order of their operands. The operands are finite; a result may be an infinity.
use Rattle.std.specs.Prelude.{ℕ, ◌≡◌, ◌+◌, ◌-◌, ◌*◌, ◌≤◌, true, false, pos, Float}
use Rattle.std.specs.Float.{fin, Format}
use Rattle.std.specs.Float.Ieee.{le, add, sub, mul, neg}
use Rattle.std.specs.Float.Ieee.Positive.{den, den_pos}
use Rattle.std.specs.Float.Ieee.Scale.{finite}
use Rattle.std.proofs.Common.{◌∙◌, arith, mul-pos, mul-le-mul_right}
use Rattle.rounding.specs.Order.{le_refl, le_neg}
use Rattle.rounding.specs.Finite.{finite_neg}
use Rattle.rounding.specs.Signed.{number, number_of, plus, minus, fractions_of_le, rounded_mono, add_rounded, mul_rounded}

pub add_mono : (f : Format) (x x' y y' : Float) → finite x ≡ true → finite x' ≡ true → finite y ≡ true → finite y' ≡ true
    → le x x' ≡ true → le y y' ≡ true → le (add f x y) (add f x' y') ≡ true
add_mono f x x' y y' X X' Y Y' h k =
    let X = number_of x X in
    let X' = number_of x' X' in
    let Y = number_of y Y in
    let Y' = number_of y' Y' in
    rounded_mono (add_rounded f X Y) (add_rounded f X' Y') (mul-pos (den_pos x) (den_pos y)) (mul-pos (den_pos x') (den_pos y'))
    (omega (arith, mul-le-mul_right (den y * den y') (fractions_of_le X X' h), mul-le-mul_right (den x * den x') (fractions_of_le Y Y' k)))

pub sub_mono_left : (f : Format) (x x' c : Float) → finite x ≡ true → finite x' ≡ true → finite c ≡ true → le x x' ≡ true → le (sub f x c) (sub f x' c) ≡ true
unfolding sub
sub_mono_left f x x' c X X' C h = let C = finite_neg c ∙ C in add_mono f x x' (neg c) (neg c) X X' C C h (le_refl (neg c) C)

pub sub_anti_right : (f : Format) (a y y' : Float) → finite a ≡ true → finite y ≡ true → finite y' ≡ true → le y y' ≡ true → le (sub f a y') (sub f a y) ≡ true
unfolding sub
sub_anti_right f a y y' A Y Y' h = add_mono f a a (neg y') (neg y) A A (finite_neg y' ∙ Y') (finite_neg y ∙ Y) (le_refl a A) (le_neg y y' h)

-- the fraction (g − l) / e, where l ≤ g, times two others
module _ (g l e p n d p' n' d' : ℕ) (s : l ≤ g) (h : p * d' + n' * d ≤ p' * d + n * d') where
  times : (g * p + l * n) * (e * d') + (g * n' + l * p') * (e * d) ≤ (g * p' + l * n') * (e * d) + (g * n + l * p) * (e * d')
  times =
      let m : g ≡ l + (g - l) = omega arith in
      rw m (omega (arith, mul-le-mul_right ((g - l) * e) h))

-- by a factor that is not negative
pub mul_mono : (f : Format) (k x y : Float) → finite k ≡ true → finite x ≡ true → finite y ≡ true
    → le (fin false 0 (pos 0)) k ≡ true → le x y ≡ true → le (mul f k x) (mul f k y) ≡ true
mul_mono f k x y K X Y s h =
    let K = number_of k K in
    let X = number_of x X in
    let Y = number_of y Y in
    let s : minus k ≤ plus k = omega (arith, fractions_of_le (number false 0 (pos 0)) K s) in
    rounded_mono (mul_rounded f K X) (mul_rounded f K Y) (mul-pos (den_pos k) (den_pos x)) (mul-pos (den_pos k) (den_pos y))
    (omega (arith, times (plus k) (minus k) (den k) (plus x) (minus x) (den x) (plus y) (minus y) (den y) s (fractions_of_le X Y h)))

-- by a factor that is not positive
pub mul_anti : (f : Format) (k x y : Float) → finite k ≡ true → finite x ≡ true → finite y ≡ true
    → le k (fin false 0 (pos 0)) ≡ true → le x y ≡ true → le (mul f k y) (mul f k x) ≡ true
mul_anti f k x y K X Y s h =
    let K = number_of k K in
    let X = number_of x X in
    let Y = number_of y Y in
    let s : plus k ≤ minus k = omega (arith, fractions_of_le K (number false 0 (pos 0)) s) in
    rounded_mono (mul_rounded f K Y) (mul_rounded f K X) (mul-pos (den_pos k) (den_pos y)) (mul-pos (den_pos k) (den_pos x))
    (omega (arith, times (minus k) (plus k) (den k) (plus x) (minus x) (den x) (plus y) (minus y) (den y) s (fractions_of_le X Y h)))
