-- What the code's structs and enums stand for: 01's values for each of their cases.
use Rattle.std.proofs.Math.Option.{Option, none, some}
use Rattle.std.specs.Prelude as code
use Rattle.std.specs.Prelude.{Float, None, Some}
use Rattle.geometry.specs.Vector
use Rattle.geometry.specs.Vector.{Weighed, weighed_by, weights, projected, vec2, vec3, Triangle, triangle}
use Rattle.geometry.specs.declared.Vec2 as code2
use Rattle.geometry.specs.declared.Vec3 as code3
use Rattle.geometry.specs.declared.Projected as codeP
use Rattle.geometry.specs.declared.Weights as codeW
use Rattle.geometry.specs.declared.Triangle as codeT
use Rattle.geometry.specs.declared.CornerWeights as codeS

abbrev pub point2 : code2.Vec2 → Vector.Vec2 Float
point2 a = vec2 a.x a.y

abbrev pub point3 : code3.Vec3 → Vector.Vec3 Float
point3 a = vec3 a.x a.y a.z

abbrev pub projected_of : codeP.Projected → Vector.Projected Float
projected_of a = projected (point3 a.p) a.w

abbrev pub weights_of : codeW.Weights → Vector.Weights Float
weights_of b = weights b.b0 b.b1 b.b2

-- the corners of a face in space, and as they are projected
abbrev pub corners_of : codeT.Triangle code3.Vec3 → Triangle (Vector.Vec3 Float)
corners_of t = triangle (point3 t.p0) (point3 t.p1) (point3 t.p2)

abbrev pub projected_corners : codeT.Triangle codeP.Projected → Triangle (Vector.Projected Float)
projected_corners t = triangle (projected_of t.p0) (projected_of t.p1) (projected_of t.p2)

-- three weights, or none
abbrev pub maybe_weights : code.Option codeW.Weights → Option (Vector.Weights Float)
maybe_weights None = none
maybe_weights (Some b) = some (weights_of b)

-- three weights and their sum, or none
abbrev pub corner_weights_of : code.Option codeS.CornerWeights → Option (Weighed Float)
corner_weights_of None = none
corner_weights_of (Some a) = some (weighed_by (weights_of a.b) a.s)

-- a projected point and its divisor, or no answer
abbrev pub projection_of : code.Option codeP.Projected → Option (Vector.Projected Float)
projection_of None = none
projection_of (Some a) = some (projected_of a)

-- three projected corners, or no answer
abbrev pub projections_of : code.Option (codeT.Triangle codeP.Projected) → Option (Triangle (Vector.Projected Float))
projections_of None = none
projections_of (Some t) = some (projected_corners t)
