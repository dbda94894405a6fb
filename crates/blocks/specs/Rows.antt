-- Rows of one column, as a scan goes down it, and what a visit brings.
use Rattle.std.specs.Prelude.{ℕ, ◌-◌, ◌/◌, ◌%◌, Bool, cond, List, ltb, Float}
use Rattle.geometry.specs.Vector.{Vec3, Triangle}
use Rattle.cells.specs.Cell.{Cell, numbered}
use Rattle.rules.specs.Scan.{centre_at, depth_at}
use Rattle.rules.specs.Visits.{down}

-- what the piece on the screen, numbered k, brings pixel p, if its scan holds it
unfoldable pub depth_cells : (Float → Bool) → Triangle (Vec3 Float) → ℕ → ℕ → ℕ → List Cell
depth_cells counted s k w p = numbered k (depth_at counted s (centre_at (p % w) (p / w)))

-- rows y0 up to, and without, y1 of column ix
unfoldable pub rows_down : ℕ → ℕ → ℕ → ℕ → List ℕ
rows_down w ix y0 y1 = down w ix y0 (y1 - y0)

-- i, but not past n
unfoldable pub up_to : ℕ → ℕ → ℕ
up_to n i = cond (ltb i n) i n
