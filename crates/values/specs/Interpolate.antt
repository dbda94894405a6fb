-- The whole outcome of `interpolate`.
use Rattle.std.specs.Prelude.{ℕ, ◌*◌, ◌/◌, ◌%◌, true, List, Float, length, get_or}
use Rattle.std.specs.Float.{nan}
use Rattle.questions.specs.Questions.{Outcome, answer}
use Rattle.meshes.specs.View.{View, view_of}
use Rattle.lists.specs.Lists.{tabulate}
use Rattle.pixel_rays.specs.Rays.{Image, ray_of}
use Rattle.vertex_values.specs.Pass.{Vertices}
use Rattle.vertex_values.specs.Questions.{pass_code}
use Rattle.pixel_values.specs.Pixel.{value_at}

-- place k is channel k % channels of pixel k / channels
unfoldable pub value_in : Image → Vertices → View → ℕ → Float → Float
value_in g s v k old = value_at s (v.at (k / s.channels)) (ray_of g (k / s.channels)) (k % s.channels) old

unfoldable pub interpolated : Image → Vertices → View → List Float → List Float
interpolated g s v old = tabulate (λ k. value_in g s v k (get_or old k nan)) 0 (g.w * g.h * s.channels)

unfoldable pub interpolate_code : Image → Vertices → List ℕ → List ℕ → List Float → ℕ
interpolate_code g s tri map pix2val = pass_code g s tri map (length pix2val) true

-- the code, and `pix2val` afterwards
unfoldable pub interpolating : Image → Vertices → List ℕ → List ℕ → List Float → Outcome (List Float)
interpolating g s tri map pix2val = answer (interpolate_code g s tri map pix2val) pix2val (interpolated g s (view_of tri map) pix2val)
