-- Proved of the definitions.
use Rattle.std.specs.Prelude.{ℕ, ◌*◌, ◌≡◌, List, length, Float}
use Rattle.std.proofs.Common.{◌∙◌}
use Rattle.lists.specs.Laws.Tests.{both}
use Rattle.questions.specs.Laws.{exactly}
use Rattle.meshes.specs.Sums.{Addition, summed}
use Rattle.meshes.specs.Laws.{length-summed}
use Rattle.outline_views.specs.Outline.{OutlineView, exact_images}
use Rattle.outline_views.specs.Laws.{lengths_passed, images_passed}
use Rattle.antialias_bwd.specs.Calls.{bwd_antialias_code}

pub as_long : (sums : List Float) {new : List Float} {n : ℕ} (xs : List Addition) → length sums ≡ n → new ≡ summed sums xs → length new ≡ n
as_long sums xs e made = rw made (length-summed sums xs ∙ e)

-- what an accepted call knows of its lengths
pub bwd_antialias_accepted : (s : OutlineView) (map : List ℕ) (val dldw dxyz : List Float) → 0 ≡ bwd_antialias_code s map val dldw dxyz
    → (length val ≡ s.width * s.height) × (length dldw ≡ s.width * s.height) × (length dxyz ≡ length s.vertices)
unfolding bwd_antialias_code
bwd_antialias_accepted s map val dldw dxyz e =
    let four = both (exact_images s.width s.height (length map) (length val) (length dldw)) _ (lengths_passed s _ e) in
    let images = images_passed s.width s.height (length map) (length val) (length dldw) four.0 in
    (images.0, images.1, exactly (length s.vertices) (length dxyz) four.1)
