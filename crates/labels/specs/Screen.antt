-- What the label screen can tell of a layer: which pixels are empty, and which body each of the others belongs to. `LabelScreen`, at the end, says that it is no more.
use Rattle.std.specs.Prelude.{ℕ, ◌*◌, ◌<◌, ◌≡◌, Bool, false, List, eqb, length}
use Rattle.questions.specs.Questions.{empty}
use Rattle.cells.specs.Layer.{Layer}
use Rattle.meshes.specs.View.{entry_at}
use Rattle.labels.specs.Labels.{body_of, labelling}

-- whether pixel p is empty
abbrev pub empty_at : Layer → ℕ → Bool
empty_at l p = eqb (entry_at l.pix2tri p) empty

-- the body that pixel p belongs to, where it is not
abbrev pub body_at : List ℕ → Layer → ℕ → ℕ
body_at tri2body l p = body_of tri2body (entry_at l.pix2tri p)

-- "Two .. layers, empty at the same pixels, whose other pixels belong to the same bodies", each by its own table
pub record SameBodies (w h : ℕ) (l : Layer) (tri2body : List ℕ) (l' : Layer) (tri2body' : List ℕ) : Type 0 where
  pub empties : (p : ℕ) → p < w * h → empty_at l p ≡ empty_at l' p
  pub bodies : (p : ℕ) → p < w * h → empty_at l p ≡ false → body_at tri2body l p ≡ body_at tri2body' l' p

pub record LabelScreen : Type 0 where
  -- both accepted, they "must give the label screen the same numbers, however depths, weights and faces differ inside", and whatever the two pictures held
  pub same_picture : (w h : ℕ) (l l' : Layer) (tri2body tri2body' pix2body pix2body' : List ℕ)
      → (labelling l.pix2tri tri2body w h pix2body).code ≡ 0
      → (labelling l'.pix2tri tri2body' w h pix2body').code ≡ 0
      → SameBodies w h l tri2body l' tri2body'
      → labelling l.pix2tri tri2body w h pix2body ≡ labelling l'.pix2tri tri2body' w h pix2body'
  -- "Codes .. depend on width, height, lengths and map entries only"
  pub same_code : (w h : ℕ) (l l' : Layer) (tri2body tri2body' pix2body pix2body' : List ℕ)
      → l.pix2tri ≡ l'.pix2tri
      → length tri2body ≡ length tri2body'
      → length pix2body ≡ length pix2body'
      → (labelling l.pix2tri tri2body w h pix2body).code ≡ (labelling l'.pix2tri tri2body' w h pix2body').code
