-- The drawing of a list of faces into a cleared layer, and what lets every run of a mesh be drawn.
use Rattle.std.specs.Prelude.{ℕ, ◌+◌, ◌*◌, ◌/◌, ◌<◌, ◌≤◌, ◌≡◌, true, List, length}
use Rattle.questions.specs.Questions.{sizes, groups, all_below, most_count}
use Rattle.cells.specs.Cell as cell
use Rattle.cells.specs.Layer.{Layer, pixelwise}
use Rattle.meshes.specs.Mesh.{Face, flat}
use Rattle.rules.specs.Offers.{Scene}
use Rattle.rules.specs.Draw.{drawn}
use Rattle.sequences.specs.Plan.{run, first_of}

abbrev pub pixel_count : Scene → ℕ
pixel_count sc = sc.width * sc.height

abbrev pub cleared : ℕ → Layer
cleared n = pixelwise n (λ p. cell.clear)

-- the drawing of a list of faces, the first of them numbered k, into a cleared layer
unfoldable pub fresh : Scene → List Face → ℕ → Layer
fresh sc fs k = drawn sc fs k (cleared (pixel_count sc))

-- What every run of an accepted mesh meets.
pub record Fit (sc : Scene) (rs : List (List Face)) : Type 0 where
  pub sized : sizes 1 sc.width sc.height ≡ true
  pub vertices : groups 3 most_count (length sc.vertices) ≡ true
  pub numbered : (r : ℕ) → r < length rs → first_of sc rs r + length (run sc rs r) ≤ most_count
  pub corners : (r : ℕ) → r < length rs → all_below (length sc.vertices / 3) (flat (run sc rs r)) ≡ true
