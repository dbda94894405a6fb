-- 01, "Edges": pairs of neighbouring pixels, numbered row by row.
use Rattle.std.specs.Prelude.{ℕ, ◌+◌, ◌-◌, ◌*◌, ◌/◌, ◌%◌}
use Rattle.pixels.specs.Pixel.{Pixel, pixel}

-- the way from a pair's first pixel to its second: so many columns to the right, so many rows down
pub record Axis : Type 0 where
  pub right : ℕ
  pub down : ℕ

abbrev pub axis : ℕ → ℕ → Axis
axis right down = record { right = right; down = down }

-- "`hedge` pairs lie one above the other ..
abbrev pub hedge : Axis
hedge = axis 0 1

-- .. `vedge` pairs side by side."
abbrev pub vedge : Axis
vedge = axis 1 0

pub record Edge : Type 0 where
  pub first : Pixel
  pub second : Pixel

-- the pair whose first pixel is (x, y)
abbrev pub edge_from : Axis → ℕ → ℕ → Edge
edge_from a x y = record { first = pixel x y; second = pixel (x + a.right) (y + a.down) }

-- in an image w wide and h high: how many pairs lie in a row, in how many rows, and in all
abbrev pub per_row : Axis → ℕ → ℕ
per_row a w = w - a.right

abbrev pub rows : Axis → ℕ → ℕ
rows a h = h - a.down

abbrev pub edge_count : Axis → ℕ → ℕ → ℕ
edge_count a w h = rows a h * per_row a w

-- pair number i
unfoldable pub edge_at : Axis → ℕ → ℕ → Edge
edge_at a w i = edge_from a (i % per_row a w) (i / per_row a w)
