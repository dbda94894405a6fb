-- Drawing as a call: the questions that it asks, in order, and its whole outcome.
use Rattle.std.specs.Prelude.{ℕ, ◌/◌, cond, List, [], ◌∷◌, eqb, length, Float}
use Rattle.questions.specs.Questions.{ask, first_no, Outcome, answer, sizes, slices, numbers, all_below}
use Rattle.cells.specs.Layer.{Layer}
use Rattle.layers.specs.Calls.{exact_layer}
use Rattle.meshes.specs.Mesh.{faces_of}
use Rattle.rules.specs.declared.Facing.{Facing}
use Rattle.rules.specs.declared.Facing.TheVariants.{All, Front}
use Rattle.rules.specs.Offers.{scene}
use Rattle.rules.specs.Draw.{drawn}

unfoldable pub draw_code : Layer → List ℕ → List Float → ℕ → ℕ → ℕ → ℕ
draw_code l tri xyz w h first =
    first_no
    (ask 1 (sizes 1 w h)
    ∷ ask 3 (slices (length tri) (length xyz))
    ∷ ask 4 (exact_layer w h l)
    ∷ ask 5 (numbers first (length tri / 3))
    ∷ ask 6 (all_below (length xyz / 3) tri)
    ∷ [])

-- 02, Point 8: 0 is all faces, any other number front pieces only
unfoldable pub facing_of : ℕ → Facing
facing_of n = cond (eqb n 0) All Front

-- `pix2tri_by_rasterization` draws the faces on the layer, the first of them numbered `first`.
unfoldable pub draws : Layer → List ℕ → List Float → ℕ → ℕ → List Float → ℕ → ℕ → Outcome Layer
draws l tri xyz w h m first facing = answer (draw_code l tri xyz w h first) l (drawn (scene m xyz w h (facing_of facing)) (faces_of tri) first l)
