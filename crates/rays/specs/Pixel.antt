-- The ray of a pixel, at f32: both its points are projections, which may have no answer.
use Rattle.std.specs.Prelude.{ℕ, List, Float}
use Rattle.std.proofs.Math.Option.{Option, none, some}
use Rattle.geometry.specs.Arith.{floats}
use Rattle.geometry.specs.Vector.{vec3, Projected}
use Rattle.geometry.specs.Leaf.{project}
use Rattle.pixels.specs.Pixel.{as_float, centre}
use Rattle.rays.specs.Space.{Ray, ray, minus3, across, down}

-- "Origin is the projection .. of (x,y,1); direction is that of (x,y,−1) minus origin": none where one of them has no answer
unfoldable pub ray_between : Option (Projected Float) → Option (Projected Float) → Option (Ray Float)
ray_between (some a) (some b) = some (ray a.p (minus3 floats b.p a.p))
ray_between (some a) none = none
ray_between none b = none

unfoldable pub ray_at : List Float → Float → Float → Option (Ray Float)
ray_at m x y = ray_between (project m (vec3 x y floats.one)) (project m (vec3 x y (floats.neg floats.one)))

-- x of column ix, and y of row iy
unfoldable pub column_at : ℕ → ℕ → Float
column_at w ix = across floats (centre ix) (as_float w)

unfoldable pub row_at : ℕ → ℕ → Float
row_at h iy = down floats (centre iy) (as_float h)

-- the ray through the centre of a pixel
unfoldable pub pixel_ray : List Float → ℕ → ℕ → ℕ → ℕ → Option (Ray Float)
pixel_ray m w h ix iy = ray_at m (column_at w ix) (row_at h iy)
