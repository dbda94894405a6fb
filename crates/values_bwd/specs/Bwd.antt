-- The whole outcome of `interpolate_bwd`.
use Rattle.std.specs.Prelude.{ℕ, ◌*◌, Bool, ◌&&◌, List, Float, length}
use Rattle.questions.specs.Questions.{Outcome, answer, exact}
use Rattle.meshes.specs.View.{view_of}
use Rattle.pixel_rays.specs.Rays.{Image}
use Rattle.vertex_values.specs.Pass.{Vertices, count}
use Rattle.vertex_values.specs.Questions.{pass_code}
use Rattle.pixel_bwd.specs.Additions.{Sums}
use Rattle.image_bwd.specs.Summed.{summed_over}

-- question 4: `dldw_vtx2xyz` is as long as `vtx2xyz`, and `dldw_vtx2val` has every vertex's channels
unfoldable pub exact_sums : Vertices → Sums → Bool
exact_sums s old = exact (length s.xyz) (length old.xyz) && exact (count s * s.channels) (length old.val)

unfoldable pub bwd_code : Image → Vertices → List ℕ → List ℕ → List Float → Sums → ℕ
bwd_code g s tri map dldw old = pass_code g s tri map (length dldw) (exact_sums s old)

-- the code, and both accumulators afterwards
unfoldable pub interpolating_bwd : Image → Vertices → List ℕ → List ℕ → List Float → Sums → Outcome Sums
interpolating_bwd g s tri map dldw old =
    answer (bwd_code g s tri map dldw old) old (summed_over g s (view_of tri map) dldw 0 (g.w * g.h) old)
