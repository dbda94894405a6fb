-- What the code's accumulators stand for.
use Rattle.std.specs.Prelude.{ℕ}
use Rattle.pixel_rays.specs.Answer.{image_of, shown}
use Rattle.vertex_values.specs.Answer.{vertices_of}
use Rattle.pixel_bwd.specs.Additions.{Sums}
use Rattle.meshes.specs.declared.View as codeV
use Rattle.pixel_bwd.specs.declared.Backward as code
use Rattle.image_bwd.specs.Summed.{summed_over}

-- sums with what n pixels of a view add, from pixel a on
abbrev pub with_pixels : codeV.View → code.Backward → ℕ → ℕ → Sums → Sums
with_pixels v b a n old = summed_over (image_of v) (vertices_of b.vertices.now) (shown v) b.dldw.now a n old
