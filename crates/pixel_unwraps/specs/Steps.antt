-- What the steps promise of a pixel.
use Rattle.std.specs.Prelude.{ℕ, ◌+◌, ◌<◌, ◌≡◌, Bool, true, ◌⊎◌, List, eqb, Float}
use Rattle.std.proofs.Math.Option.{Option, none, some}
use Rattle.geometry.specs.Vector.{Vec2}
use Rattle.meshes.specs.Mesh.{Face}
use Rattle.meshes.specs.View.{named, entry_at}
use Rattle.pixels.specs.Pixel.{pixel, number_in, centre_of}
use Rattle.pixels.specs.Edge.{Edge, axis, edge_from}
use Rattle.inside.specs.Inside.{present}
use Rattle.meshes.specs.Mesh.{project_face}
use Rattle.pairs.specs.Pairs.{first_of, second_of}
use Rattle.tris.specs.Weights.{world_in}

-- whether a pair's entries are equal
abbrev pub equal_at : List ℕ → ℕ → Edge → Bool
equal_at map w e = eqb (entry_at map (first_of w e)) (entry_at map (second_of w e))

-- the pixel (x, y) has the entry of the next pixel, and of the one before, where there is one
abbrev pub LikeNext : List ℕ → ℕ → ℕ → ℕ → ℕ → ℕ → ℕ → Type 0
LikeNext map w h x y right down = x + right < w → y + down < h → equal_at map w (edge_from (axis right down) x y) ≡ true

abbrev pub LikePrevious : List ℕ → ℕ → ℕ → ℕ → ℕ → ℕ → Type 0
LikePrevious map w x y right down = (k l : ℕ) → k + right ≡ x → l + down ≡ y → equal_at map w (edge_from (axis right down) k l) ≡ true

-- of all its neighbours
pub record LikeAllNeighbours (map : List ℕ) (w h x y : ℕ) : Type 0 where
  pub right : LikeNext map w h x y 1 0
  pub below : LikeNext map w h x y 0 1
  pub left : LikePrevious map w x y 1 0
  pub above : LikePrevious map w x y 0 1

-- whether what a pixel shows has its weights at q: an empty one needs none
unfoldable pub weighs_of : List Float → List Float → Option Face → Vec2 Float → Bool
weighs_of m xyz none q = true
weighs_of m xyz (some f) q = present (world_in q (project_face m xyz f))

-- no pair of the pixel lacks its weights
abbrev pub WeighsOrInner : List ℕ → List ℕ → List Float → List Float → ℕ → ℕ → ℕ → ℕ → Type 0
WeighsOrInner tri map m xyz w h x y =
    (weighs_of m xyz (named tri (entry_at map (number_in w (pixel x y)))) (centre_of (pixel x y)) ≡ true) ⊎ LikeAllNeighbours map w h x y
