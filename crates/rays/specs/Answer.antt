-- What the code's rays stand for.
use Rattle.std.proofs.Math.Option.{Option, none, some}
use Rattle.std.specs.Prelude as code
use Rattle.std.specs.Prelude.{Float, None, Some}
use Rattle.geometry.specs.Answer.{point3}
use Rattle.rays.specs.Space as Space
use Rattle.rays.specs.Space.{ray}
use Rattle.rays.specs.declared.Ray as codeR

abbrev pub ray_of : codeR.Ray → Space.Ray Float
ray_of r = ray (point3 r.org) (point3 r.dir)

-- a ray, or none
abbrev pub pixel_ray_of : code.Option codeR.Ray → Option (Space.Ray Float)
pixel_ray_of None = none
pixel_ray_of (Some r) = some (ray_of r)
