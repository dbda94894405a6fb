-- What an accepted call knows.
use Rattle.std.specs.Prelude.{ℕ, ◌*◌, ◌≤◌, ◌≡◌, true, List, length}
use Rattle.questions.specs.Questions.{names_faces, most_count}
use Rattle.questions.specs.Laws.{Sized}

pub record Ready (pix2tri tri2body : List ℕ) (w h : ℕ) (pix2body : List ℕ) : Type 0 where
  pub size : Sized 1 w h
  pub few : length tri2body ≤ most_count
  pub whole : length pix2tri ≡ w * h
  pub lent : length pix2body ≡ w * h
  pub named : names_faces (length tri2body) pix2tri ≡ true
