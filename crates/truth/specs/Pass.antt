-- An image while the vertices and the values move, and what is asked of each of its pixels.
use Prim.Native.Nat.{ℕ, ◌+◌, ◌*◌, ◌≤◌}
use Rattle.std.specs.Prelude.{◌≡◌}
use Rattle.std.proofs.Math.Option.{Option, none, some}
use Rattle.geometry.specs.Arith.{Arith}
use Rattle.rays.specs.Space.{Ray}
use Rattle.meshes.specs.Mesh.{Face}
use Rattle.truth.specs.Laws.{Invertible}
use Rattle.truth.specs.Dual.{Dual, dual, still}
use Rattle.truth.specs.Moving.{still_ray}
use Rattle.truth.specs.Meeting.{D, n_dot_n}
use Rattle.truth.specs.Image.{Scene, corners_at}

abbrev pub still_rays : {A : Type 0} → Arith A → Option (Ray A) → Option (Ray (Dual A))
still_rays R none = none
still_rays R (some r) = some (still_ray R r)

-- mx and mv, by place, are the movements of the vertices and of the values
abbrev pub moving_scene : {A : Type 0} → Arith A → Scene A → (ℕ → A) → (ℕ → A) → Scene (Dual A)
moving_scene R s mx mv =
    record {
      shown = s.shown;
      rays = λ p. still_rays R (s.rays p);
      channels = s.channels;
      xyz = λ k. dual (s.xyz k) (mx k);
      val = λ k. dual (s.val k) (mv k);
      dldw = λ k. still R (s.dldw k);
    }

-- a corner's places in buffers of nx and nv numbers
pub record Fits (nx nv c v : ℕ) : Type 0 where
  pub xyz : v * 3 + 3 ≤ nx
  pub val : v * c + c ≤ nv

-- what is asked of a face f that is seen along the ray r
pub record Good {A : Type 0} (R : Arith A) (s : Scene A) (nx nv : ℕ) (f : Face) (r : Ray A) : Type 0 where
  pub crosses : Invertible R (D R (corners_at s.xyz f) r)
  pub spans : Invertible R (n_dot_n R (corners_at s.xyz f))
  pub corner0 : Fits nx nv s.channels f.v0
  pub corner1 : Fits nx nv s.channels f.v1
  pub corner2 : Fits nx nv s.channels f.v2

-- what is asked of pixel p: nothing of an empty one
abbrev pub Ready : {A : Type 0} → Arith A → Scene A → ℕ → ℕ → ℕ → Type 0
Ready {A} R s nx nv p = (f : Face) (r : Ray A) → s.shown p ≡ some f → s.rays p ≡ some r → Good R s nx nv f r
