-- The shares of one pair: which faces receive the edge's gradient, from which pixel centre, and which way it points in the image.
use Rattle.std.specs.Prelude.{ℕ, Bool, true, false, cond, List, [], ◌∷◌, Float}
use Rattle.std.proofs.Math.Option.{Option, none, some}
use Rattle.geometry.specs.Vector.{Vec2, Vec3, Projected, Triangle}
use Rattle.meshes.specs.Mesh.{Face}
use Rattle.pixels.specs.Pixel.{centre_of}
use Rattle.pixels.specs.Edge.{Axis, Edge}
use Rattle.inside.specs.Inside.{all_inside, contains}
use Rattle.meshes.specs.Mesh.{project_face}
use Rattle.pairs.specs.Pairs.{EdgeView, first_of, second_of, equal_entries}
use Rattle.tris.specs.Tri.{unormal}
use Rattle.crossings.specs.Crossing.{along, skipped, coefficient0, coefficient1, g_pix}

-- the face that receives, the centre of its own pixel, and the gradient in the image that `dldr` becomes
pub record Share : Type 0 where
  pub face : Face
  pub centre : Vec2 Float
  pub gradient : Float → Vec3 Float

abbrev pub share : Face → Vec2 Float → (Float → Vec3 Float) → Share
share f q g = record { face = f; centre = q; gradient = g }

-- one triangle's share: the gradient along the axis
unfoldable pub alone : ℕ → Option Face → Vec2 Float → List Share
alone axis none q = []
alone axis (some f) q = share f q (along axis) ∷ []

-- the intersection's two shares, of the unit normals, unless it is skipped
unfoldable pub crossing : ℕ → Face → Face → Vec2 Float → Vec2 Float → Vec3 Float → Vec3 Float → List Share
crossing axis f0 f1 q0 q1 n0 n1 =
    cond (skipped axis n0 n1) []
    (share f0 q0 (g_pix (coefficient0 axis n0 n1) n0) ∷ share f1 q1 (g_pix (coefficient1 axis n0 n1) n1) ∷ [])

-- a corner without a projection is refused by question 8
unfoldable pub crossing_of : ℕ → Face → Face → Vec2 Float → Vec2 Float → Option (Triangle (Projected Float)) → Option (Triangle (Projected Float)) → List Share
crossing_of axis f0 f1 q0 q1 none t1 = []
crossing_of axis f0 f1 q0 q1 (some t0) none = []
crossing_of axis f0 f1 q0 q1 (some t0) (some t1) = crossing axis f0 f1 q0 q1 (unormal t0) (unormal t1)

-- each centre inside the other pixel's face: nothing where one is empty
unfoldable pub intersection : ℕ → List Float → List Float → Option Face → Option Face → Vec2 Float → Vec2 Float → List Share
intersection axis m xyz none g q0 q1 = []
intersection axis m xyz (some f0) none q0 q1 = []
intersection axis m xyz (some f0) (some f1) q0 q1 = crossing_of axis f0 f1 q0 q1 (project_face m xyz f0) (project_face m xyz f1)

-- by whether the first centre is inside the second face, and the second centre inside the first: an intersection, the first in front, the second, neither
unfoldable pub received : Bool → Bool → List Share → List Share → List Share → List Share
received true true both first second = both
received true false both first second = first
received false true both first second = second
received false false both first second = []

-- of two entries that are not equal, and their pixels' centres
unfoldable pub between : ℕ → List Float → List Float → Option Face → Option Face → Vec2 Float → Vec2 Float → List Share
between axis m xyz g0 g1 q0 q1 =
    received (contains all_inside m xyz g1 q0) (contains all_inside m xyz g0 q1) (intersection axis m xyz g0 g1 q0 q1) (alone axis g0 q0) (alone axis g1 q1)

-- the shares of a pair: equal entries have none
unfoldable pub shares_at : Axis → EdgeView → Edge → List Share
shares_at a s e =
    cond (equal_entries s e) []
    (between a.down s.matrix s.vertices (s.view.at (first_of s.width e)) (s.view.at (second_of s.width e)) (centre_of e.first) (centre_of e.second))
