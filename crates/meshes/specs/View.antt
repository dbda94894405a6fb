-- What a pass may see of a map: whether a pixel is empty, the three corners of the face its entry names, and whether two entries are equal.
-- No definition of a pass takes the face list or the map, so one that sees the same view gives the same numbers.
use Rattle.std.specs.Prelude.{ℕ, Bool, cond, List, eqb, get_or}
use Rattle.std.proofs.Math.Option.{Option, none, some}
use Rattle.questions.specs.Questions.{empty}
use Rattle.meshes.specs.Mesh.{Face, face_at}

pub record View : Type 0 where
  pub at : ℕ → Option Face
  pub alike : ℕ → ℕ → Bool

-- the face that an entry names, or nothing for the entry called empty
unfoldable pub named : List ℕ → ℕ → Option Face
named tri entry = cond (eqb entry empty) none (some (face_at tri entry))

-- the entry of pixel p; past the map's end nothing is shown
abbrev pub entry_at : List ℕ → ℕ → ℕ
entry_at map p = get_or map p empty

abbrev pub view_of : List ℕ → List ℕ → View
view_of tri map = record { at = λ p. named tri (entry_at map p); alike = λ p q. eqb (entry_at map p) (entry_at map q) }
