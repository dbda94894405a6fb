-- What one pixel adds to the accumulators, in the Rust's order. Every place is one of a corner of the face that the pixel shows.
use Rattle.std.specs.Prelude.{ℕ, ◌+◌, ◌*◌, Float}
use Rattle.std.proofs.Math.Option.{Option, none, some}
use mathlib.Core.List.{List, [], ◌∷◌, ◌++◌, flat_map}
use Rattle.geometry.specs.Arith.{floats}
use Rattle.geometry.specs.Vector.{Vec3, Weights, Triangle}
use Rattle.rays.specs.Space.{Ray}
use Rattle.meshes.specs.Mesh.{Face}
use Rattle.meshes.specs.Sums.{Addition, addition, summed}
use Rattle.lists.specs.Lists.{span}
use Rattle.vertex_values.specs.Pass.{Vertices}
use Rattle.pixel_gradients.specs.Gradients.{gradients_at}

-- one addition for each corner, at number j of its n
abbrev pub to_corners : ℕ → Face → ℕ → Float → Float → Float → List Addition
to_corners n f j x0 x1 x2 = addition (f.v0 * n + j) x0 ∷ addition (f.v1 * n + j) x1 ∷ addition (f.v2 * n + j) x2 ∷ []

-- to `dldw_vtx2xyz`: axis by axis, each corner's share
unfoldable pub to_xyz : Face → Triangle (Vec3 Float) → List Addition
to_xyz f g =
    to_corners 3 f 0 g.p0.x g.p1.x g.p2.x
    ++ (to_corners 3 f 1 g.p0.y g.p1.y g.p2.y ++ to_corners 3 f 2 g.p0.z g.p1.z g.p2.z)

-- to `dldw_vtx2val`: channel by channel, the incoming gradient times each corner's weight
unfoldable pub to_val : ℕ → Face → (ℕ → Float) → Weights Float → List Addition
to_val c f d b = flat_map (λ j. to_corners c f j (floats.mul (d j) b.b0) (floats.mul (d j) b.b1) (floats.mul (d j) b.b2)) (span 0 c)

-- an empty pixel adds nothing
unfoldable pub pixel_xyz : Vertices → Option Face → Option (Ray Float) → (ℕ → Float) → List Addition
pixel_xyz s (some f) (some r) d = to_xyz f (gradients_at s f r d).to
pixel_xyz s (some f) none d = []
pixel_xyz s none r d = []

unfoldable pub pixel_val : Vertices → Option Face → Option (Ray Float) → (ℕ → Float) → List Addition
pixel_val s (some f) (some r) d = to_val s.channels f d (gradients_at s f r d).bc
pixel_val s (some f) none d = []
pixel_val s none r d = []

-- both accumulators
pub record Sums : Type 0 where
  pub xyz : List Float
  pub val : List Float

abbrev pub sums : List Float → List Float → Sums
sums xyz val = record { xyz = xyz; val = val }

-- and after a pixel
abbrev pub pixel_sums : Vertices → Option Face → Option (Ray Float) → (ℕ → Float) → Sums → Sums
pixel_sums s o r d old = sums (summed old.xyz (pixel_xyz s o r d)) (summed old.val (pixel_val s o r d))
