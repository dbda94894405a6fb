-- The questions of both values passes, in 01's order.
use Rattle.std.specs.Prelude.{ℕ, ◌*◌, Bool, ◌&&◌, List, [], ◌∷◌, ◌++◌, length}
use Rattle.questions.specs.Questions.{Question, ask, first_no, exact, opening, naming}
use Rattle.meshes.specs.View.{view_of}
use Rattle.pixel_rays.specs.Rays.{Image, rays_answer}
use Rattle.vertex_values.specs.Pass.{Vertices, count}

-- 4, of the buffers that both passes are lent, by their lengths: `pix2tri`, `vtx2val`, and the one with c channels for each pixel
unfoldable pub exact_counts : ℕ → ℕ → ℕ → ℕ → ℕ → ℕ → ℕ → Bool
exact_counts w h c vertexCount map val pixels = exact (w * h) map && (exact (vertexCount * c) val && exact (w * h * c) pixels)

abbrev pub exact_pass : Image → Vertices → List ℕ → ℕ → Bool
exact_pass g s map pixels = exact_counts g.w g.h s.channels (count s) (length map) (length s.val) pixels

-- 6 to 8
abbrev pub closing : Image → ℕ → List ℕ → List ℕ → List Question
closing g vertexCount tri map = naming vertexCount tri map ++ ask 8 (rays_answer g (view_of tri map)) ∷ []

-- the code of a pass; `others`: have the buffers that it alone is lent the exact length?
unfoldable pub pass_code : Image → Vertices → List ℕ → List ℕ → ℕ → Bool → ℕ
pass_code g s tri map pixels others =
    first_no
    (opening g.w g.h s.channels (length tri) (length s.xyz)
    ++ ask 4 (exact_pass g s map pixels && others) ∷ closing g (count s) tri map)
