-- How the side of an edge on which a corner lies changes along a row of corners.
use Rattle.std.specs.Prelude.{ℕ, ◌≤◌, ◌≡◌, Bool, true, ◌&&◌, Float}
use Rattle.std.specs.Float.Ieee.{le}
use Rattle.std.specs.Float.Ieee.Scale.{finite}
use Rattle.geometry.specs.Arith.{floats}
use Rattle.pixels.specs.Pixel.{as_float}
use Rattle.outlines.specs.Formula.{Ends}
use Rattle.outlines.specs.Covered.{side_of}
use Rattle.outline_spans.specs.declared.course.Course.{Course}
use Rattle.outline_spans.specs.declared.course.Course.TheVariants.{Falling, Rising}

-- k times the way from c to line i. A side is the difference of two such: that of its row and that of its column
unfoldable pub stretched : Float → Float → ℕ → Float
stretched k c i = floats.mul k (floats.sub (as_float i) c)

-- at the first line and at line n
unfoldable pub ends_finite : Float → Float → ℕ → Bool
ends_finite k c n = finite (stretched k c 0) && finite (stretched k c n)

-- in an image w wide and h high, the sides along a row of corners never rise on the way right
abbrev pub Falls : Ends Float → ℕ → ℕ → Type 0
Falls e w h = (i j y : ℕ) → i ≤ j → j ≤ w → y ≤ h → le (side_of e j y) (side_of e i y) ≡ true

-- they never fall
abbrev pub Rises : Ends Float → ℕ → ℕ → Type 0
Rises e w h = (i j y : ℕ) → i ≤ j → j ≤ w → y ≤ h → le (side_of e i y) (side_of e j y) ≡ true

-- what a course tells of an edge
pub record Runs (course : Course) (e : Ends Float) (w h : ℕ) : Type 0 where
  pub falls : course ≡ Falling → Falls e w h
  pub rises : course ≡ Rising → Rises e w h
