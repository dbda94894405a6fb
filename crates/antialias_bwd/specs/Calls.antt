-- The whole outcome of `bwd_antialias`.
use Rattle.std.specs.Prelude.{ℕ, ◌&&◌, List, length, Float}
use Rattle.questions.specs.Questions.{Outcome, answer, exact}
use Rattle.meshes.specs.Sums.{Addition, summed}
use Rattle.outline_views.specs.Outline.{OutlineView, exact_images, outline_code, outline_items}
use Rattle.antialias_bwd.specs.Additions.{crossing_additions}

-- the questions, of the map, `pix2val`, `dldw_pix2val` and the accumulator
unfoldable pub bwd_antialias_code : OutlineView → List ℕ → List Float → List Float → List Float → ℕ
bwd_antialias_code s map val dldw dxyz =
    outline_code s (exact_images s.width s.height (length map) (length val) (length dldw) && exact (length s.vertices) (length dxyz))

-- what the pass adds, in order: edge after edge, each crossing of it
unfoldable pub outline_additions : OutlineView → List Float → List Float → List Addition
outline_additions s val dldw = outline_items (crossing_additions s.matrix s.vertices val dldw) s

-- the code, and `dldw_vtx2xyz` afterwards
unfoldable pub antialiasing_bwd : OutlineView → List ℕ → List Float → List Float → List Float → Outcome (List Float)
antialiasing_bwd s map val dldw dxyz = answer (bwd_antialias_code s map val dldw dxyz) dxyz (summed dxyz (outline_additions s val dldw))
