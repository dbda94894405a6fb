-- IEEE 754-2019 squareRoot, to nearest even, over either format: the value as a function (`root`), and the standard's words as a relation (`Nearest`).
-- A root is irrational in general, so both compare squares. Definitions only.
use Rattle.std.specs.Prelude.{◌≡◌, true, false, cond, T, leb, Float}
use Prim.Native.Nat.{ℕ, zero, suc, ◌+◌, ◌-◌, ◌*◌, ◌/◌, ◌^◌, ◌<◌, compare}
use Rattle.std.specs.Float.{nan, inf, fin, Format}
use Rattle.std.specs.Float.Ieee.{prec, low, up, down, size, nearest, units, lt, fits}
use Rattle.std.specs.Float.Ieee.Positive.{num, den, positive}
use Rattle.std.specs.Float.Ieee.Scale.{finite}

-- ---- the value

-- the root of n, below 4 ^ digits, cut to a whole number: a binary digit is taken where the square stays within n
unfoldable pub root_of : (digits n : ℕ) → ℕ
root_of zero n = zero
root_of (suc d) n = let r = 2 * root_of d (n / 4) in cond (leb (suc r * suc r) n) (suc r) r

unfoldable pub whole_root : ℕ → ℕ
unfolding size root_of
whole_root n = root_of (size n) n

-- The nearest value to the root of n times the format's smallest value.
-- In units of that value the root is the real root of v. Of its whole part w the format keeps the `prec` leading digits and drops k. So it lies
-- from q * 2 ^ k on and below (q + 1) * 2 ^ k units, and by v's place beside the square of the middle of the two (of which mid is the double)
-- it is nearer to the one or to the other.
unfoldable pub root_units : Format → ℕ → Float
unfolding size units whole_root
root_units f n =
    let v = n * 2 ^ low f in
    let w = whole_root v in
    let k = size w - prec f in
    let q = w / 2 ^ k in
    let mid = (2 * q + 1) * 2 ^ k in
    units f false (nearest q (compare (4 * v) (mid * mid))) k

-- squareRoot: a NaN gives a NaN, +infinity itself, a zero itself with its sign, any other negative value a NaN
unfoldable pub root : Format → Float → Float
unfolding root_units
root f nan = nan
root f (inf false) = inf false
root f (inf true) = nan
root f (fin s zero e) = fin s zero e
root f (fin true (suc m) e) = nan
root f (fin false (suc m) e) = root_units f (suc m * up e * 2 ^ low f / down e)

-- ---- the standard's words

-- r + y over the denominator den r * den y, and 0 where that is negative; a positive r and a finite y
abbrev pub sum_over : Float → Float → ℕ
sum_over r nan = 0
sum_over r (inf s) = 0
sum_over r (fin false n e) = num r * down e + n * up e * den r
sum_over r (fin true n e) = num r * down e - n * up e * den r

-- Twice the real root of x is above, or below, r + y: by the squares, 4 * x beside (r + y) * (r + y).
abbrev pub RootAbove : Float → Float → Float → Type 0
RootAbove x r y = sum_over r y * sum_over r y * den x < 4 * num x * ((den r * den y) * (den r * den y))

abbrev pub RootBelow : Float → Float → Float → Type 0
RootBelow x r y = 4 * num x * ((den r * den y) * (den r * den y)) < sum_over r y * sum_over r y * den x

-- Of all the finite values of the format, r is the nearest to the real root of x, which is above 0: any other is further from it, and none as near.
-- (The root is nearer to r than to a y above r where it is below the middle of the two, and nearer than to a y below r where it is above.)
pub record Nearest (f : Format) (x r : Float) : Type 0 where
  pub in_format : T (fits f r)
  pub above_zero : T (positive r)
  pub than_above : (y : Float) → T (fits f y) → T (finite y) → T (lt r y) → RootBelow x r y
  pub than_below : (y : Float) → T (fits f y) → T (finite y) → T (lt y r) → RootAbove x r y

-- what a square root promises of its answer r to x
pub record SquareRoot (f : Format) (x r : Float) : Type 0 where
  pub is : r ≡ root f x
  pub nearest : T (positive x) → Nearest f x r
