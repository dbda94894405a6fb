-- 02, Point 6: how much work a mesh is, without drawing it. Both numbers are sums over the pieces and the scans by which it is drawn.
use Rattle.std.specs.Prelude.{ℕ, ◌*◌, ◌/◌, ◌%◌, List, [], ◌∷◌, length, Float}
use Rattle.lists.specs.Lists.{span, sum_of, count}
use Rattle.questions.specs.Questions.{ask, first_no, Outcome, answer, sizes, slices, all_below}
use Rattle.meshes.specs.Mesh.{Face, faces_of}
use Rattle.rules.specs.Piece.{Piece}
use Rattle.rules.specs.Scan.{screened, scans}
use Rattle.rules.specs.Offers.{Scene, scene, face_pieces}
use Rattle.rules.specs.declared.Facing.TheVariants.{All}

-- what a face is charged: its pieces after clipping, none, one or two
unfoldable pub charge : Scene → Face → ℕ
charge sc f = length (face_pieces sc f)

-- the pixels of the image that the scan of a piece holds
unfoldable pub piece_pixels : ℕ → ℕ → Piece → ℕ
piece_pixels w h t = count (λ p. scans (screened w h t.corners) (p % w) (p / w)) (span 0 (w * h))

-- those that the scans of a face's pieces offer, a pixel as often as it is offered
unfoldable pub face_pixels : Scene → Face → ℕ
face_pixels sc f = sum_of (piece_pixels sc.width sc.height) (face_pieces sc f)

pub record Load : Type 0 where
  pub pieces : ℕ
  pub pixels : ℕ

abbrev pub load : ℕ → ℕ → Load
load pieces pixels = record { pieces = pieces; pixels = pixels }

-- the load of a list of faces
unfoldable pub load_of : Scene → List Face → Load
load_of sc fs = load (sum_of (charge sc) fs) (sum_of (face_pixels sc) fs)

unfoldable pub load_code : List ℕ → List Float → ℕ → ℕ → ℕ
load_code tri xyz w h =
    first_no
    (ask 1 (sizes 1 w h)
    ∷ ask 3 (slices (length tri) (length xyz))
    ∷ ask 6 (all_below (length xyz / 3) tri)
    ∷ [])

-- `drawing_load` answers the load of the faces; refused, it answers 0 for both. The load is that of every facing (Laws Load `load_facing`).
unfoldable pub loading : List ℕ → List Float → ℕ → ℕ → List Float → Outcome Load
loading tri xyz w h m = answer (load_code tri xyz w h) (load 0 0) (load_of (scene m xyz w h All) (faces_of tri))
