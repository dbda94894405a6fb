-- What a narrowed range of columns or rows says.
use Rattle.std.specs.Prelude.{ℕ, ◌+◌, ◌≤◌, ◌<◌, ◌≡◌, Bool, false, Float}
use Rattle.pixels.specs.Pixel.{pixel}
use Rattle.outlines.specs.Formula.{Ends}
use Rattle.outlines.specs.Covered.{covers}
use Rattle.boxes.specs.declared.lines.Span.{Span}

-- of n lines, each that is not on the border and before r fails the test
pub record NoneBefore (test : ℕ → Bool) (n r : ℕ) : Type 0 where
  pub missed : (i : ℕ) → 0 < i → i + 1 < n → i < r → test i ≡ false

-- and each from r on
pub record NoneFrom (test : ℕ → Bool) (n r : ℕ) : Type 0 where
  pub missed : (i : ℕ) → 0 < i → i + 1 < n → r ≤ i → test i ≡ false

-- r keeps off the border of n columns or rows, and each of them that is neither on the border nor in r fails the test
pub record Narrowed (test : ℕ → Bool) (n : ℕ) (r : Span) : Type 0 where
  pub first : 1 ≤ r.start
  pub last : r.end + 1 ≤ n
  pub before : NoneBefore test n r.start
  pub from : NoneFrom test n r.end

-- in each row, an edge covers no pixel out of a range of n columns that keeps off the border
pub record Boxed (e : Ends Float) (n : ℕ) (r : Span) : Type 0 where
  pub first : 1 ≤ r.start
  pub last : r.end + 1 ≤ n
  pub before : (y : ℕ) → NoneBefore (λ x. covers e (pixel x y)) n r.start
  pub from : (y : ℕ) → NoneFrom (λ x. covers e (pixel x y)) n r.end
