-- 02, Point 10: what the label screen shows. It is lent the map and a table of bodies, and neither depths nor weights.
use Rattle.std.specs.Prelude.{ℕ, ◌*◌, ◌&&◌, cond, List, [], ◌∷◌, map, eqb, length, get_or}
use Rattle.questions.specs.Questions.{ask, first_no, Outcome, answer, sizes, bounded, exact, names_faces, empty}

-- the body number of the face that an entry names, "from a lent table of one u32 per face"; a face past the table's end has none
unfoldable pub body_of : List ℕ → ℕ → ℕ
body_of tri2body face = get_or tri2body face empty

-- what the screen shows of an entry: a body number, "4294967295 for an empty pixel"
unfoldable pub label : List ℕ → ℕ → ℕ
label tri2body entry = cond (eqb entry empty) empty (body_of tri2body entry)

-- "a lent picture of one u32 per pixel"
unfoldable pub labelled : List ℕ → List ℕ → List ℕ
labelled tri2body pix2tri = map (label tri2body) pix2tri

-- questions 1, 3, 4 and 7; "The table's length is the face count here"
unfoldable pub label_code : List ℕ → List ℕ → ℕ → ℕ → List ℕ → ℕ
label_code pix2tri tri2body w h pix2body =
    first_no
    (ask 1 (sizes 1 w h)
    ∷ ask 3 (bounded (length tri2body))
    ∷ ask 4 (exact (w * h) (length pix2tri) && exact (w * h) (length pix2body))
    ∷ ask 7 (names_faces (length tri2body) pix2tri)
    ∷ [])

-- `label_picture` shows every pixel's body number.
unfoldable pub labelling : List ℕ → List ℕ → ℕ → ℕ → List ℕ → Outcome (List ℕ)
labelling pix2tri tri2body w h pix2body = answer (label_code pix2tri tri2body w h pix2body) pix2body (labelled tri2body pix2tri)
