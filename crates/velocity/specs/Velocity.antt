-- The velocity of a vertex, from those on the edges around it.
use Rattle.std.specs.Prelude.{ℕ, ◌+◌, ◌*◌, ◌/◌, ◌%◌, cond, List, eqb, get_or, Float}
use Rattle.std.specs.Float.{nan}
use Rattle.geometry.specs.Vector.{Vec2, vec2}
use Rattle.pixels.specs.Edge.{hedge, vedge}
use Rattle.grids.specs.Grid.{sample}

-- vertex number v of `vtx2xy`
unfoldable pub point_at : List Float → ℕ → Vec2 Float
point_at xy v = vec2 (get_or xy (2 * v) nan) (get_or xy (2 * v + 1) nan)

-- a vertex's velocity: x from the pairs side by side, y from those one above the other
unfoldable pub velocity_at : ℕ → ℕ → List Float → List Float → List Float → ℕ → Float
velocity_at w h hedge2vy vedge2vx xy k =
    cond (eqb (k % 2) 0) (sample vedge w h vedge2vx (point_at xy (k / 2))) (sample hedge w h hedge2vy (point_at xy (k / 2)))
