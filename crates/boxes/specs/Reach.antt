-- The columns or rows of a box: from the first whose centre is not before the box to the first past it.
use Rattle.std.specs.Prelude.{ℕ, ◌≤◌, ◌<◌, ◌≡◌, Bool, true, false, not, ◌&&◌, Float}
use Rattle.std.specs.Float.Ieee.{le}
use Rattle.pixels.specs.Pixel.{centre}
use Rattle.rules.specs.Scan.{column, row, spans, all_finite}
use Rattle.boxes.specs.declared.lines.Along.{Along}
use Rattle.boxes.specs.declared.lines.Along.TheVariants.{Columns, Rows}
use Rattle.boxes.specs.declared.reach.End.{End}
use Rattle.boxes.specs.declared.reach.End.TheVariants.{Lower, Upper}

-- centre i has come to the box's lower end x; or, past its upper end x
unfoldable pub reached : End → ℕ → Bool
reached (Lower x) i = le x (centre i)
reached (Upper x) i = not (le (centre i) x)

-- r is at most n, and none before it has reached the end
pub record Settled (end : End) (n r : ℕ) : Type 0 where
  pub within : r ≤ n
  pub before : (i : ℕ) → i < r → reached end i ≡ false

-- r is the first of n columns or rows that has reached the end, or n
pub record FirstReached (end : End) (n r : ℕ) : Type 0 where
  pub within : r ≤ n
  pub before : (i : ℕ) → i < r → reached end i ≡ false
  pub after : (i : ℕ) → r ≤ i → i < n → reached end i ≡ true

-- the coordinate in pixels of a corner along n columns or n rows
abbrev pub in_pixels : Along → ℕ → Float → Float
in_pixels Columns n c = column n c
in_pixels Rows n c = row n c

-- three coordinates are finite, and centre i lies in their closed box
unfoldable pub holds_centre : Float → Float → Float → ℕ → Bool
holds_centre a b c i = all_finite a b c && spans a b c (centre i)

-- Of three coordinates one is not finite, or none of n centres lies in their closed box: no scan of a piece with them holds any of the n.
unfoldable pub Misses : Float → Float → Float → ℕ → Type 0
Misses a b c n = (i : ℕ) → i < n → holds_centre a b c i ≡ false

-- what the answer r tells of three coordinates: they miss all n centres, or they are finite
pub record Tells (a b c : Float) (n : ℕ) (r : Bool) : Type 0 where
  pub misses : r ≡ false → Misses a b c n
  pub all_are_finite : r ≡ true → all_finite a b c ≡ true
