-- The ray of each pixel of an image, and question 8 of the passes that follow them.
use Rattle.std.specs.Prelude.{ℕ, ◌*◌, ◌/◌, ◌%◌, Bool, true, false, List, Float}
use Rattle.std.proofs.Math.Option.{Option, none, some}
use Rattle.lists.specs.Lists.{every, span}
use Rattle.rays.specs.Space.{Ray}
use Rattle.rays.specs.Pixel.{pixel_ray}
use Rattle.meshes.specs.Mesh.{Face}
use Rattle.meshes.specs.View.{View}

-- width, height, and the matrix `transform_ndc2world`
pub record Image : Type 0 where
  pub w : ℕ
  pub h : ℕ
  pub ndc2world : List Float

abbrev pub image : ℕ → ℕ → List Float → Image
image w h m = record { w = w; h = h; ndc2world = m }

-- the ray of pixel p
unfoldable pub ray_of : Image → ℕ → Option (Ray Float)
ray_of g p = pixel_ray g.ndc2world g.w g.h (p % g.w) (p / g.w)

-- 8. "Has every projection the pass unwraps an answer: .. both ray points of pixels that are not empty"?
unfoldable pub answered : Option Face → Option (Ray Float) → Bool
answered none r = true
answered (some f) none = false
answered (some f) (some r) = true

unfoldable pub rays_answer : Image → View → Bool
rays_answer g v = every (λ p. answered (v.at p) (ray_of g p)) (span 0 (g.w * g.h))
