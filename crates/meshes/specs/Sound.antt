-- What an accepted call knows of its mesh, and of its map.
use Rattle.std.specs.Prelude.{ℕ, ◌*◌, ◌/◌, ◌≡◌, true, List, length, Float}
use Rattle.questions.specs.Questions.{all_below, names_faces}
use Rattle.questions.specs.Laws.{Sized}

-- whole faces and vertices, each face naming vertices that are there
pub record SoundMesh (tri : List ℕ) (xyz : List Float) : Type 0 where
  pub faces : 3 * (length tri / 3) ≡ length tri
  pub vertices : 3 * (length xyz / 3) ≡ length xyz
  pub named : all_below (length xyz / 3) tri ≡ true

-- an image of a sound mesh, each entry naming a face that is there, or none
pub record SoundMap (tri : List ℕ) (xyz : List Float) (map : List ℕ) (w h : ℕ) : Type 0 where
  pub mesh : SoundMesh tri xyz
  pub size : Sized 1 w h
  pub whole : length map ≡ w * h
  pub named : names_faces (length tri / 3) map ≡ true
