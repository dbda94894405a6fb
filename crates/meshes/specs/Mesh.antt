-- The faces and vertices of a mesh, out of flat slices: `tri2vtx` and `vtx2xyz`.
use Rattle.std.specs.Prelude.{ℕ, ◌+◌, ◌*◌, ◌<◌, List, [], ◌∷◌, get_or, Float}
use Rattle.std.specs.Float.{nan}
use Rattle.std.proofs.Math.Option.{Option, none, some}
use Rattle.geometry.specs.Vector.{Vec3, vec3, Triangle, triangle, Projected}
use Rattle.geometry.specs.Leaf.{project}

-- three vertex numbers
pub record Face : Type 0 where
  pub v0 : ℕ
  pub v1 : ℕ
  pub v2 : ℕ

abbrev pub face : ℕ → ℕ → ℕ → Face
face v0 v1 v2 = record { v0 = v0; v1 = v1; v2 = v2 }

-- face number i
unfoldable pub face_at : List ℕ → ℕ → Face
face_at tri i = face (get_or tri (3 * i) 0) (get_or tri (3 * i + 1) 0) (get_or tri (3 * i + 2) 0)

-- all faces, in order
unfoldable pub faces_of : List ℕ → List Face
faces_of [] = []
faces_of (a ∷ []) = []
faces_of (a ∷ b ∷ []) = []
faces_of (a ∷ b ∷ c ∷ tri) = face a b c ∷ faces_of tri

-- the face slice of a list of faces
unfoldable pub flat : List Face → List ℕ
flat [] = []
flat (f ∷ fs) = f.v0 ∷ f.v1 ∷ f.v2 ∷ flat fs

-- vertex number v
unfoldable pub vertex_at : List Float → ℕ → Vec3 Float
vertex_at xyz v = vec3 (get_or xyz (3 * v) nan) (get_or xyz (3 * v + 1) nan) (get_or xyz (3 * v + 2) nan)

-- the corners of a face
unfoldable pub corners_at : List Float → Face → Triangle (Vec3 Float)
corners_at xyz f = triangle (vertex_at xyz f.v0) (vertex_at xyz f.v1) (vertex_at xyz f.v2)

-- three corners, or none where one of them is missing
unfoldable pub all_three : {A : Type 0} → Option A → Option A → Option A → Option (Triangle A)
all_three none b c = none
all_three (some a) none c = none
all_three (some a) (some b) none = none
all_three (some a) (some b) (some c) = some (triangle a b c)

-- a face's corners as the matrix m projects them
unfoldable pub project_face : List Float → List Float → Face → Option (Triangle (Projected Float))
project_face m xyz f = all_three (project m (vertex_at xyz f.v0)) (project m (vertex_at xyz f.v1)) (project m (vertex_at xyz f.v2))

-- a face whose corners are among n vertices
pub record Among (n : ℕ) (f : Face) : Type 0 where
  pub c0 : f.v0 < n
  pub c1 : f.v1 < n
  pub c2 : f.v2 < n
