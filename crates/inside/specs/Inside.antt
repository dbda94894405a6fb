-- When a face contains a point of the image.
use Rattle.std.specs.Prelude.{Bool, true, false, ◌&&◌, List, Float}
use Rattle.std.proofs.Math.Option.{Option, none, some}
use Rattle.std.specs.Float.Ieee.{le}
use Rattle.geometry.specs.Arith.{floats}
use Rattle.geometry.specs.Vector.{Vec2, flat, Weights, Weighed, Projected, Triangle}
use Rattle.geometry.specs.Leaf.{corner_weights}
use Rattle.meshes.specs.Mesh.{Face, project_face}

unfoldable pub all_at_least_zero : Weights Float → Bool
all_at_least_zero b = le floats.zero b.b0 && (le floats.zero b.b1 && le floats.zero b.b2)

-- "In `bwd` the weights must all be ≥ 0 and none means outside." By Point 4 of 02 it is the type call's test, too.
unfoldable pub all_inside : Option (Weighed Float) → Bool
all_inside none = false
all_inside (some a) = all_at_least_zero a.b

-- the weights of q in a projected face; none, too, where a corner has no projection, which question 8 refuses
unfoldable pub weights_in : Vec2 Float → Option (Triangle (Projected Float)) → Option (Weighed Float)
weights_in q none = none
weights_in q (some t) = corner_weights q (flat t.p0.p) (flat t.p1.p) (flat t.p2.p)

-- Whether what a pixel shows contains the point q, by a test of the weights: "An empty neighbour counts as containing the point".
unfoldable pub contains : (Option (Weighed Float) → Bool) → List Float → List Float → Option Face → Vec2 Float → Bool
contains test m xyz none q = true
contains test m xyz (some f) q = test (weights_in q (project_face m xyz f))

unfoldable pub present : {A : Type 0} → Option A → Bool
present none = false
present (some a) = true

-- whether it has every projection that the pass unwraps
unfoldable pub projects : List Float → List Float → Option Face → Bool
projects m xyz none = true
projects m xyz (some f) = present (project_face m xyz f)
